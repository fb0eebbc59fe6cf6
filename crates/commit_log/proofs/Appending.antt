-- What an append comes to.
use Rattle.std.proofs.Common.{◌≡◌, ℕ, ◌+◌, ◌<◌, ◌-◌, Bool, cond, eqb, List, [], ◌∷◌, ◌++◌, length, map, filter, take, sym, ap, ◌∙◌, arith, eq-eqb}
use Rattle.std.specs.List.{enumerate_from}
use Rattle.std.proofs.lemmas.List.{map-append, take_all}
use Rattle.std.proofs.lemmas.List.Sums.{fold-append}
use Rattle.std.proofs.lemmas.List.Elements.{filter-append}
use Rattle.cubit_base.specs.Delta.{applied}
use Rattle.cubit_base.specs.History.{after}
use Rattle.cubit_base.specs.declared.delta.Delta.{Delta}
use Rattle.commit_log.specs.declared.front.Front.{Front}
use Rattle.commit_log.specs.Log.{Terms, IsWhole}
use Rattle.commit_log.specs.Handle.{Handle, places_by, Appended}
use Rattle.commit_log.specs.Serial.{SerialValue, serial_handle}

enumerate-snoc : (n : ℕ) (log : List Delta) (d : Delta) →
    enumerate_from n (log ++ d ∷ []) ≡ enumerate_from n log ++ (n + length log, d) ∷ []
enumerate-snoc n [] d = let e : n ≡ n + 0 = omega arith in ap (λ k. (k, d) ∷ []) e
enumerate-snoc n (x ∷ log) d =
    let e : (n + 1) + length log ≡ n + length (x ∷ log) = omega arith in
    ap (λ (rest : List (ℕ × Delta)). (n, x) ∷ rest)
    (enumerate-snoc (n + 1) log d ∙ ap (λ k. enumerate_from (n + 1) log ++ (k, d) ∷ []) e)

-- one more delta of the author
pub places-snoc : (author : ℕ) (log : List Delta) (d : Delta) → d.author ≡ author →
    places_by author (log ++ d ∷ []) ≡ places_by author log ++ length log ∷ []
places-snoc author log d by =
    let own = λ (p : ℕ × Delta). eqb p.1.author author in
    let place = λ (p : ℕ × Delta). p.0 in
    let n : 0 + length log ≡ length log = omega arith in
    ap (λ (x : List (ℕ × Delta)). map place (filter own x))
    (enumerate-snoc 0 log d ∙ ap (λ k. enumerate_from 0 log ++ (k, d) ∷ []) n)
    ∙ ap (map place) (filter-append own (enumerate_from 0 log) ((length log, d) ∷ []))
    ∙ ap (λ (b : Bool). map place (filter own (enumerate_from 0 log) ++ cond b ((length log, d) ∷ []) []))
    (eq-eqb d.author author by)
    ∙ map-append place (filter own (enumerate_from 0 log)) ((length log, d) ∷ [])

-- the log of one caller after its own delta
pub appended : (terms : Terms) (v w : SerialValue) (at front : Front) (d : Delta) → at.len < terms.limits.log_limit →
    at.len ≡ length v.seen → w ≡ record v { seen = v.seen ++ d ∷ []; spare = v.spare - 1 } → d.author ≡ 0 →
    IsWhole terms w.seen front → Appended terms (serial_handle v) at d (serial_handle w) front
appended terms v w at front d room len is by whole = record {
  room = room;
  last = len;
  is = ap serial_handle is;
  mine =
      ap (λ (x : SerialValue). places_by 0 x.seen) is ∙ places-snoc 0 v.seen d by
      ∙ ap (λ n. places_by 0 v.seen ++ n ∷ []) (sym len);
  whole = whole;
}

-- the table after the new front
pub table-appended : (terms : Terms) (handle later : Handle) (at front : Front) (d : Delta) →
    Appended terms handle at d later front →
    after terms.base (take front.len later.seen) ≡ applied (after terms.base (take at.len handle.seen)) d
table-appended terms handle later at front d a =
    let all : take front.len later.seen ≡ handle.seen ++ d ∷ [] =
    ap (λ n. take n later.seen) a.whole.whole ∙ take_all (length later.seen) later.seen (omega arith)
    ∙ ap (λ (h : Handle). h.seen) a.is in
    let before : take at.len handle.seen ≡ handle.seen =
    ap (λ n. take n handle.seen) a.last ∙ take_all (length handle.seen) handle.seen (omega arith) in
    ap (after terms.base) all ∙ fold-append applied terms.base handle.seen (d ∷ [])
    ∙ ap (λ (h : List Delta). applied (after terms.base h) d) (sym before)
