-- The search for a key in a log of one caller.
use Rattle.std.proofs.Common.{◌≡◌, ℕ, ◌-◌, ◌<◌, List, length, slice_get, slice_index, get_or, Some, sym, ap, ◌∙◌, subst, arith}
use Rattle.std.proofs.lemmas.List.{length-map, get_or-map}
use Rattle.std.proofs.lemmas.Option.{slice_get_within, slice_get-get_or, get_or_from_slice_get}
use Rattle.cubit_base.specs.Key.{KeyValue}
use Rattle.cubit_base.specs.declared.delta.Delta.{Delta}
use Rattle.cubit_base.specs.declared.entry.Entry.{Entry}
use Rattle.cubit_base.specs.declared.entry.Limits.{Limits}
use Rattle.commit_log.specs.Column.{EndsWith}
use Rattle.commit_log.specs.Log.{Terms, HasKey, HasNone, IsEntry, IsLast, IsLastPlace}
use Rattle.commit_log.specs.declared.stored.StoredDelta.{StoredDelta}
use Rattle.commit_log.specs.StoredDelta.{delta_of, stored_of}
use Rattle.commit_log.specs.Serial.{deltas_of, IsSerial}

-- the only delta in its place
pub key-there : (log : List Delta) (key : KeyValue) (place : ℕ) (d : Delta) → slice_get log place ≡ Some d →
    HasKey log key place → d.key ≡ key
key-there log key place d at has =
    sym (ap (λ (x : Delta). x.key)
    (sym (get_or_from_slice_get log place has.0 d has.1) ∙ get_or_from_slice_get log place d d at)) ∙ has.2

module _ (terms : Terms) (entries : List StoredDelta) (orders : List ℕ) (first now : ℕ) (limits : Limits)
    (s : IsSerial terms entries orders first now limits) where
  -- the delta of a stored one
  pub stored-delta : (place : ℕ) (e : StoredDelta) → place < length entries → e ≡ get_or entries place e →
      slice_get (deltas_of entries) place ≡ Some (delta_of e)
  stored-delta place e lt is =
      let l = length-map entries delta_of in
      slice_get-get_or (deltas_of entries) place (delta_of e) (omega arith)
      ∙ ap Some (get_or-map delta_of entries place e (delta_of e) lt ∙ ap delta_of (sym is))

  -- the column has the order of each delta
  pub order-at : (place : ℕ) (d : Delta) → slice_get (deltas_of entries) place ≡ Some d →
      slice_index orders place ≡ d.key.order
  order-at place d at =
      let l = length-map entries delta_of in
      let w = slice_get_within (deltas_of entries) place d at in
      let lt : place < length entries = omega arith in
      let x : StoredDelta = stored_of d 0 in
      let is : delta_of (get_or entries place x) ≡ d =
      sym (get_or-map delta_of entries place x d lt) ∙ get_or_from_slice_get (deltas_of entries) place d d at in
      ap (λ (os : List ℕ). get_or os place 0) s.orders_are
      ∙ get_or-map (λ (e : StoredDelta). e.key.order) entries place x 0 lt
      ∙ ap (λ (y : Delta). y.key.order) is

-- behind the last of an order no delta has a key with this order
pub none-behind : (terms : Terms) (entries : List StoredDelta) (orders : List ℕ) (first now : ℕ) (limits : Limits)
    (s : IsSerial terms entries orders first now limits) (key : KeyValue) (order from to end : ℕ) → order ≡ key.order →
    EndsWith orders order from to end → HasNone (deltas_of entries) key end to
none-behind terms entries orders first now limits s key order from to end e ends place d lo hi at is =
    ends.behind place lo hi
    (order-at terms entries orders first now limits s place d at ∙ ap (λ (k : KeyValue). k.order) is ∙ sym e)

-- the entry in the last place with the key
pub last-entry : (terms : Terms) (log : List Delta) (key : KeyValue) (from to place : ℕ) (entry : Entry) →
    IsEntry terms log place entry → IsLastPlace log key from to place → IsLast terms log key from to entry
last-entry terms log key from to place entry is last =
    let seq = is.seq in let low = last.after in let high = last.before in
    let at : place ≡ entry.seq - 1 = omega arith in
    record {
      after = omega arith;
      before = omega arith;
      is_entry = subst (λ n. IsEntry terms log n entry) at is;
      has_key = key-there log key place entry.delta is.delta last.has_key;
      last = subst (λ n. HasNone log key n to) (sym seq) last.last;
    }
