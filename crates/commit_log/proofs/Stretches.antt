-- The deltas between two lengths of a log.
use Rattle.std.proofs.Common.{◌≡◌, ◌≢◌, ℕ, zero, suc, ◌+◌, ◌-◌, ◌≤◌, true, false, ◌&&◌, cond, eqb, eq-eqb, List, [], ◌∷◌, ◌++◌, length, take, drop, get_or, slice_get, Option, Some, None, sym, ap, ◌∙◌, subst, arith, ⊎_elim}
use Rattle.std.specs.Option.{option_map}
use Rattle.std.proofs.lemmas.Grind.{common_steps}
use Rattle.std.proofs.lemmas.Bool.Decides.{eqb_tells}
use Rattle.std.proofs.lemmas.List.{take-append-drop, take-take, take_more, drop-append-le, length-take-le}
use Rattle.std.proofs.lemmas.List.Sums.{fold-append}
use Rattle.std.proofs.lemmas.Option.{slice_get_within, slice_get-get_or, get_or_from_slice_get}
use Rattle.cubit_base.specs.Key.{KeyValue, same_key}
use Rattle.cubit_base.specs.History.{is_of_key, last_delta}
use Rattle.cubit_base.specs.declared.delta.Delta.{Delta}
use Rattle.cubit_base.specs.declared.entry.Entry.{Entry}
use Rattle.commit_log.specs.Log.{Terms, between, HasNone, IsLatest}

-- no delta from a length to itself
between-empty : (log : List Delta) (n : ℕ) → between n n log ≡ []
between-empty log n = grind (arith, common_steps)

-- a longer stretch has one delta more
pub between-next : (log : List Delta) (from to : ℕ) (delta : Delta) → from ≤ to → slice_get log to ≡ Some delta →
    between from (to + 1) log ≡ between from to log ++ delta ∷ []
between-next log from to delta le at =
    let within = slice_get_within log to delta at in
    let long = length-take-le to log (omega arith) in
    ap (drop from)
    (take_more log to delta within
    ∙ ap (λ (x : Delta). take to log ++ x ∷ []) (get_or_from_slice_get log to delta delta at))
    ∙ drop-append-le from (take to log) (delta ∷ []) (omega arith)

-- a prefix and the stretch behind it
pub between-parts : (log : List Delta) (from to : ℕ) → from ≤ to → take from log ++ between from to log ≡ take to log
between-parts log from to le =
    ap (λ (x : List Delta). x ++ between from to log) (sym (take-take from to log le))
    ∙ take-append-drop from (take to log)

other-key : (a b : KeyValue) → a ≢ b → same_key a b ≡ false
other-key a b other = ⊎_elim
    (λ order. ⊎_elim
    (λ line. absurd (other (λ i. record { order = order.1 i; line = line.1 i })))
    (λ line. λ i. order.0 i && line.0 i)
    (eqb_tells a.line b.line))
    (λ order. ap (λ x. x && eqb a.line b.line) order.0)
    (eqb_tells a.order b.order)

same-key : (a b : KeyValue) → a ≡ b → same_key a b ≡ true
same-key a b same =
    let order = eq-eqb a.order b.order (ap (λ (k : KeyValue). k.order) same) in
    let line = eq-eqb a.line b.line (ap (λ (k : KeyValue). k.line) same) in
    λ i. order i && line i

-- what was found stays the last where the rest has none
none-last : (log : List Delta) (key : KeyValue) (from start n : ℕ) (found : Option Delta) → from ≤ start →
    start + n ≤ length log → HasNone log key start (start + n) →
    last_delta (is_of_key key) (between from start log) ≡ found →
    last_delta (is_of_key key) (between from (start + n) log) ≡ found
none-last log key from start zero found le long none is =
    let e : start + 0 ≡ start = omega arith in
    ap (λ k. last_delta (is_of_key key) (between from k log)) e ∙ is
none-last log key from start (suc n) found le long none is =
    let nothing : Delta = record { author = 0; row = 0; key = key; before = None; after = None } in
    let e : start + suc n ≡ (start + n) + 1 = omega arith in
    let x = get_or log (start + n) nothing in
    let at : slice_get log (start + n) ≡ Some x = slice_get-get_or log (start + n) nothing (omega arith) in
    let other : same_key x.key key ≡ false = other-key x.key key (none (start + n) x (omega arith) (omega arith) at) in
    let so_far = none-last log key from start n found le (omega arith)
    (λ place d lo hi. none place d lo (omega arith)) is in
    ap (λ k. last_delta (is_of_key key) (between from k log)) e
    ∙ ap (last_delta (is_of_key key)) (between-next log from (start + n) x (omega arith) at)
    ∙ fold-append (λ (last : Option Delta) (d : Delta). cond (is_of_key key d) (Some d) last) None
    (between from (start + n) log) (x ∷ [])
    ∙ ap (λ b. cond b (Some x) (last_delta (is_of_key key) (between from (start + n) log))) other
    ∙ so_far

-- the entry of the last delta with a key has the last delta with it
pub latest-is : (terms : Terms) (log : List Delta)
    (key : KeyValue) (from to : ℕ) (entry : Option Entry) → from ≤ to → to ≤ length log →
    IsLatest terms log key from to entry →
    last_delta (is_of_key key) (between from to log) ≡ option_map (λ (e : Entry). e.delta) entry
latest-is terms log key from to None le long none =
    let e : from + (to - from) ≡ to = omega arith in
    ap (λ k. last_delta (is_of_key key) (between from k log)) (sym e)
    ∙ none-last log key from from (to - from) None (omega arith) (omega arith)
    (subst (HasNone log key from) (sym e) none)
    (ap (last_delta (is_of_key key)) (between-empty log from))
latest-is terms log key from to (Some entry) le long last =
    let a = last.after in let b = last.before in
    let e : entry.seq + (to - entry.seq) ≡ to = omega arith in
    let up : entry.seq ≡ (entry.seq - 1) + 1 = omega arith in
    ap (λ k. last_delta (is_of_key key) (between from k log)) (sym e)
    ∙ none-last log key from entry.seq (to - entry.seq) (Some entry.delta) (omega arith) (omega arith)
    (subst (HasNone log key entry.seq) (sym e) last.last)
    (ap (λ k. last_delta (is_of_key key) (between from k log)) up
    ∙ ap (last_delta (is_of_key key))
    (between-next log from (entry.seq - 1) entry.delta (omega arith) last.is_entry.delta)
    ∙ fold-append (λ (last : Option Delta) (d : Delta). cond (is_of_key key d) (Some d) last) None
    (between from (entry.seq - 1) log) (entry.delta ∷ [])
    ∙ ap (λ b. cond b (Some entry.delta) (last_delta (is_of_key key) (between from (entry.seq - 1) log)))
    (same-key entry.delta.key key last.has_key))
