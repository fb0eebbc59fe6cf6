-- The entry of a delta that comes next of all.
use Rattle.std.proofs.Common.{◌≡◌, ◌↔◌, ◌||◌, ℕ, ◌+◌, ◌<◌, ◌^◌, true, List, [], ◌∷◌, ◌++◌, length, take, is_some, IfSome, sym, ap, ◌∙◌, subst, arith}
use Rattle.std.proofs.lemmas.List.{take_all}
use Rattle.std.proofs.lemmas.List.Sums.{fold-append}
use Rattle.cubit_base.specs.Key.{IsKey}
use Rattle.cubit_base.specs.Tuple.{IsTuple}
use Rattle.cubit_base.specs.Table.{Row}
use Rattle.cubit_base.specs.Delta.{applied, IsLawful}
use Rattle.cubit_base.specs.History.{after, rows_after, IsHistory}
use Rattle.cubit_base.specs.declared.delta.Delta.{Delta}
use Rattle.cubit_base.specs.declared.entry.Entry.{Entry}
use Rattle.cubit_base.specs.EntryWords.{FitsWords}
use Rattle.log_core.specs.Terms.{AreTerms}
use Rattle.log_core.specs.Core.{CoreValue, IsSound}
use Rattle.log_core.specs.Steps.{MayComeNext}
use Rattle.log_core.proofs.Ends.{end_at-last}
use Rattle.log_core.proofs.Tables.{RowsFit}

abbrev pub HasRow : Type 0
HasRow = (limit : ℕ) (table : List Row) (d : Delta) → IsLawful limit table d → d.row < length (applied table d)

abbrev pub IsTold : Type 0
IsTold = (limit : ℕ) (table : List Row) (d : Delta) → IsLawful limit table d →
    (is_some d.before || is_some d.after) ≡ true

abbrev pub HistoriesJoin : Type 0
HistoriesJoin = (limit : ℕ) (table : List Row) (h g : List Delta) →
    IsHistory limit table (h ++ g) ↔ (IsHistory limit table h × IsHistory limit (after table h) g)

module _ (c : CoreValue) (s : IsSound c) (p len rows : ℕ) (d : Delta) (author : d.author ≡ p)
    (all : len ≡ length c.chain.history)
    (lawful : IsLawful c.terms.limits.row_limit (after c.terms.base c.chain.history) d)
    (many : rows ≡ rows_after c.terms.base (take len c.chain.history ++ d ∷ [])) where
  abbrev next : Entry
  next = record { seq = len + 1; rows = rows; delta = d }

  abbrev h : List Delta
  h = c.chain.history

  pub next-may : MayComeNext c p (length h) next
  next-may = record {
    author = author;
    seq = let end = end_at-last h (length h) (omega arith) in omega (arith, all);
    rows = many ∙ ap (λ n. rows_after c.terms.base (take n h ++ d ∷ [])) all;
    lawful = subst (λ (x : List Delta). IsLawful c.terms.limits.row_limit (after c.terms.base x) d)
        (sym (take_all (length h) h (omega arith))) lawful;
  }

  whole : rows ≡ rows_after c.terms.base (h ++ d ∷ [])
  whole =
      many ∙ ap (λ (x : List Delta). rows_after c.terms.base (x ++ d ∷ [])) (take_all len h (omega (arith, all)))

  pub next-fits : RowsFit → HistoriesJoin → HasRow → IsTold → AreTerms c.terms → p < length c.parties →
      length h < c.terms.limits.log_limit → IsKey d.key → d.key.order < 2 ^ 32 → IfSome d.before IsTuple →
      IfSome d.after IsTuple → FitsWords next
  next-fits fit joined row told a inp room key order before after_is =
      let limit = c.terms.limits.row_limit in
      let limits = a.limits in
      let most_rows = limits.most_rows in
      let most_deltas = limits.most_deltas in
      let parties = a.party_high in
      let count = s.party_count in
      let longer : IsHistory limit c.terms.base (h ++ d ∷ []) =
      (joined limit c.terms.base h (d ∷ [])).1 (s.lawful, (lawful, tt)) in
      let within = fit limit c.terms.base (h ++ d ∷ []) longer limits.base_rows in
      let in_row = row limit (after c.terms.base h) d lawful in
      let last = ap (λ (t : List Row). length t) (fold-append applied c.terms.base h (d ∷ [])) in
      record {
        seq_low = omega arith;
        seq_high = omega (arith, all);
        rows = omega (arith, whole);
        row = omega (arith, whole);
        key = key;
        order = order;
        author = omega (arith, author);
        before = before;
        after = after_is;
        told = told limit (after c.terms.base h) d lawful;
      }
