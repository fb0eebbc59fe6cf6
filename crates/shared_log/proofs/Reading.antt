-- What a walk from the first delta on tells of a row.
use Rattle.std.proofs.Common.{◌≡◌, ℕ, ◌+◌, ◌≤◌, ◌++◌, List, [], ◌∷◌, take, slice_get, Option, ap, sym, ◌∙◌, subst, arith}
use Rattle.cubit_base.specs.Table.{Row}
use Rattle.cubit_base.specs.Delta.{applied}
use Rattle.cubit_base.specs.History.{after}
use Rattle.cubit_base.specs.declared.delta.Delta.{Delta}
use Rattle.cubit_base.specs.declared.entry.Entry.{Entry}
use Rattle.commit_log.specs.Log.{Terms, IsLog, Stands, IsPlace, between}
use Rattle.commit_log.specs.Handle.{Handle, WalksOn}
use Rattle.commit_log.specs.declared.front.Front.{Front}
use Rattle.commit_log.specs.declared.front.Cursor.{Cursor}

-- a walk from the start up to a front has come to a cursor, where the row holds this
pub record ReadsRow (terms : Terms) (first handle : Handle) (at : Front) (cursor : Cursor) (row : ℕ)
    (held : Option Row) : Type 0 where
  pub before : cursor.len ≤ at.len
  pub place : IsPlace terms handle.seen cursor
  pub stands : Stands terms handle.seen at
  pub log : IsLog terms handle.seen
  pub holds : held ≡ slice_get (after terms.base (take cursor.len handle.seen)) row
  pub seen : handle.seen ≡ first.seen
  pub author : handle.author ≡ first.author
  pub spare : handle.spare ≡ first.spare

-- the table after one delta more
pub table-next : (base : List Row) (log : List Delta) (n : ℕ) (d : Delta) →
    between 0 (n + 1) log ≡ between 0 n log ++ d ∷ [] →
    after base (take n log ++ d ∷ []) ≡ after (after base (take n log)) (d ∷ []) →
    after base (take (n + 1) log) ≡ applied (after base (take n log)) d
table-next base log n d next join = ap (after base) next ∙ join

pub reads-next : (terms : Terms) (first handle later : Handle) (at : Front) (cursor next : Cursor) (row : ℕ)
    (held now : Option Row) (entry : Entry) → ReadsRow terms first handle at cursor row held →
    WalksOn terms handle cursor at later next entry →
    now ≡ slice_get (after terms.base (take (cursor.len + 1) handle.seen)) row →
    ReadsRow terms first later at next row now
reads-next terms first handle later at cursor next row held now entry r w holds =
    let same = ap (λ (h : Handle). h.seen) w.walked in
    record {
      before = let a = w.before in let b = w.moved in omega arith;
      place = subst (λ (s : List Delta). IsPlace terms s next) (sym same) w.is_place;
      stands = subst (λ (s : List Delta). Stands terms s at) (sym same) r.stands;
      log = subst (λ (s : List Delta). IsLog terms s) (sym same) r.log;
      holds = holds ∙ ap (λ (n : ℕ). slice_get (after terms.base (take n handle.seen)) row) (sym w.moved)
          ∙ ap (λ (s : List Delta). slice_get (after terms.base (take next.len s)) row) (sym same);
      seen = same ∙ r.seen;
      author = ap (λ (h : Handle). h.author) w.walked ∙ r.author;
      spare = ap (λ (h : Handle). h.spare) w.walked ∙ r.spare;
    }
