-- One more delta of a log of one caller.
use Rattle.std.proofs.Common.{◌≡◌, ℕ, ◌+◌, ◌<◌, List, [], ◌∷◌, ◌++◌, length, take, slice_get, All, Some, IfSome, sym, refl, ap, ◌∙◌, subst, arith, length-append}
use mathlib.Core.Logic.{dite}
use native.Mathlib.Decide.{dec_lt}
use Rattle.std.proofs.lemmas.List.{map-append, length-map, take-append-le, take_all, get_or_append_left, get_or_at}
use Rattle.std.proofs.lemmas.Option.{slice_get_within, slice_get-get_or, get_or_from_slice_get}
use Rattle.std.proofs.lemmas.List.Elements.{All-append, All-cons, All-nil}
use Rattle.cubit_base.specs.Tuple.{IsTuple}
use Rattle.cubit_base.specs.declared.delta.Delta.{Delta}
use Rattle.cubit_base.specs.declared.entry.Limits.{Limits}
use Rattle.cubit_base.specs.History.{IsHistory, rows_after}
use Rattle.commit_log.specs.Log.{Terms, IsLog}
use Rattle.commit_log.specs.declared.stored.StoredDelta.{StoredDelta}
use Rattle.commit_log.specs.StoredDelta.{delta_of, stored_of}
use Rattle.commit_log.specs.Serial.{deltas_of, IsSerial}

slice-shorter : {A : Type 0} (xs ys : List A) (k : ℕ) (x : A) → k < length xs → slice_get (xs ++ ys) k ≡ Some x →
    slice_get xs k ≡ Some x
slice-shorter xs ys k x lt at =
    slice_get-get_or xs k x lt
    ∙ ap Some (sym (get_or_append_left xs ys x k lt) ∙ get_or_from_slice_get (xs ++ ys) k x x at)

slice-last : {A : Type 0} (xs : List A) (y x : A) → slice_get (xs ++ y ∷ []) (length xs) ≡ Some x → y ≡ x
slice-last xs y x at =
    sym (get_or_at xs y [] x (length xs) refl) ∙ get_or_from_slice_get (xs ++ y ∷ []) (length xs) x x at

module _ (terms : Terms) (entries : List StoredDelta) (orders : List ℕ) (first now : ℕ) (limits : Limits)
    (s : IsSerial terms entries orders first now limits) (d : Delta) (rows : ℕ) (by : d.author ≡ 0)
    (room : length (deltas_of entries) < terms.limits.log_limit)
    (history : IsHistory terms.limits.row_limit terms.base (deltas_of entries ++ d ∷ []))
    (rows_now : rows ≡ rows_after terms.base (deltas_of entries ++ d ∷ [])) (tuple : IfSome d.after IsTuple) where
  abbrev pub e : StoredDelta
  e = stored_of d rows

  longer : deltas_of (entries ++ e ∷ []) ≡ deltas_of entries ++ d ∷ []
  longer =
      map-append delta_of entries (e ∷ [])
      ∙ ap (λ (x : Delta). deltas_of entries ++ x ∷ []) (ap (λ a. record d { author = a }) (sym by))

  as_long : length (deltas_of entries) ≡ length entries
  as_long = length-map entries delta_of

  one_more : length (deltas_of entries ++ d ∷ []) ≡ length (deltas_of entries) + 1
  one_more = length-append (deltas_of entries) (d ∷ [])

  each : (place : ℕ) (x : StoredDelta) → slice_get (entries ++ e ∷ []) place ≡ Some x →
      x.rows ≡ rows_after terms.base (take (place + 1) (deltas_of entries ++ d ∷ []))
  each place x at = dite (dec_lt place (length entries))
      (λ lt. let l = as_long in
      s.rows place x (slice-shorter entries (e ∷ []) place x lt at)
      ∙ ap (rows_after terms.base) (sym (take-append-le (place + 1) (deltas_of entries) (d ∷ []) (omega arith))))
      (λ ge.
      let l = length-append entries (e ∷ []) in
      let w = slice_get_within (entries ++ e ∷ []) place x at in
      let m = one_more in let a = as_long in
      let here : place ≡ length entries = omega arith in
      let is : e ≡ x = slice-last entries e x (subst (λ n. slice_get (entries ++ e ∷ []) n ≡ Some x) here at) in
      sym (ap (λ (y : StoredDelta). y.rows) is) ∙ rows_now
      ∙ ap (rows_after terms.base) (sym (take_all (place + 1) (deltas_of entries ++ d ∷ []) (omega arith))))

  -- the entries with that of the delta
  pub serial-snoc : IsSerial terms (entries ++ e ∷ []) (orders ++ d.key.order ∷ []) first rows limits
  serial-snoc = record {
    log = subst (IsLog terms) (sym longer) (let m = one_more in record {
      limits_fit = s.log.limits_fit;
      history = history;
      tuples = let within = λ (x : Delta). IfSome x.after IsTuple in
          All-append within (deltas_of entries) (d ∷ []) s.log.tuples (All-cons within d [] tuple (All-nil within));
      within = omega arith;
    });
    rows = λ place x at.
        each place x at ∙ ap (λ (h : List Delta). rows_after terms.base (take (place + 1) h)) (sym longer);
    orders_are =
        ap (λ (x : List ℕ). x ++ d.key.order ∷ []) s.orders_are
        ∙ sym (map-append (λ (x : StoredDelta). x.key.order) entries (e ∷ []));
    first_is = s.first_is;
    now_is = rows_now ∙ ap (rows_after terms.base) (sym longer);
    limits_are = s.limits_are;
  }
