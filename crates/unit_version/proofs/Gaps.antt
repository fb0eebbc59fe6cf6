-- Where the entries with a code stand.
use Rattle.std.proofs.Common.{◌≡◌, ◌≢◌, ℕ, ◌-◌, ◌<◌, ◌≤◌, List, [], ◌∷◌, length, get_or, inl, inr, arith}
use Rattle.std.specs.List.Sorted.{IsStrictlyIncreasing}
use Rattle.std.proofs.lemmas.Bool.{cases_lt}
use Rattle.std.proofs.lemmas.List.{get_or-map, get_or_default, length-map}
use Rattle.unit_version.specs.Entry.{codes}
use Rattle.unit_version.specs.Merged.{AreBefore, IsGap}
use Rattle.unit_version.specs.Search.{IsNear}
use Rattle.unit_version.specs.declared.keys.entry.Entry.{Entry}
use Rattle.unit_version.proofs.Finds.{numbers-far}

abbrev code : Entry → ℕ
code e = e.code

-- behind the place of a code all are above it
near-behind : (entries : List Entry) (n behind : ℕ) → IsStrictlyIncreasing (codes entries)
    → IsNear (codes entries) n behind → (k : ℕ) (e : Entry) → behind ≤ k → k < length entries
    → n < (get_or entries k e).code
near-behind entries n behind up near k e from within =
    let above = near.high (omega (arith, length-map entries code)) in
    let at = get_or-map code entries behind e 0 (omega arith) in
    elim (cases_lt behind k) [
      | inl later ↦ (let far = numbers-far code entries behind k e e up later within in omega arith)
      | inr here ↦ (let is : k ≡ behind = omega arith in rw is (omega arith))
    ]

-- the entry before that place has the code
pub gap-one : (entries : List Entry) (n behind : ℕ) (e : Entry) → IsStrictlyIncreasing (codes entries)
    → IsNear (codes entries) n behind → 0 < behind → (get_or entries (behind - 1) e).code ≡ n
    → IsGap entries n (behind - 1) behind
gap-one entries n behind e up near some is =
    let within : behind ≤ length entries = omega (arith, near.within, length-map entries code) in
    record {
      order = omega arith;
      within = within;
      before = λ k d low. (let far = numbers-far code entries k (behind - 1) d e up low (omega arith) in omega arith);
      same = λ k d from to.
          let at : k ≡ behind - 1 = omega arith in
          rw (at, get_or_default entries (behind - 1) d e (omega arith)) is;
      behind = near-behind entries n behind up near;
    }

-- or no entry has
pub gap-none : (entries : List Entry) (n behind : ℕ) → IsStrictlyIncreasing (codes entries)
    → IsNear (codes entries) n behind → ((e : Entry) → 0 < behind → (get_or entries (behind - 1) e).code ≢ n)
    → IsGap entries n behind behind
gap-none entries n behind up near other =
    let within : behind ≤ length entries = omega (arith, near.within, length-map entries code) in
    record {
      order = omega arith;
      within = within;
      before = λ k d low.
          let below = near.low (omega arith) in
          let at = get_or-map code entries (behind - 1) d 0 (omega arith) in
          let differs = other d (omega arith) in
          elim (cases_lt k (behind - 1)) [
            | inl earlier ↦
                (let far = numbers-far code entries k (behind - 1) d d up earlier (omega arith) in omega arith)
            | inr here ↦ (let is : k ≡ behind - 1 = omega arith in rw is (omega arith))
          ];
      same = λ k d from to. absurd (omega arith);
      behind = near-behind entries n behind up near;
    }

-- a place before which all codes are below one does not lie behind its gap
pub gap-order : (entries : List Entry) (n from gap behind : ℕ) → from ≤ length entries → AreBefore n from entries
    → IsGap entries n gap behind → from ≤ gap
gap-order [] n from gap behind within before is = omega arith
gap-order (e ∷ entries) n from gap behind within before is = elim (cases_lt gap from) [
  | inl less ↦
      let below = before gap e less in
      elim (cases_lt gap behind) [
        | inl inside ↦ (let same = is.same gap e (omega arith) inside in absurd (omega arith))
        | inr past ↦ (let above = is.behind gap e past (omega arith) in absurd (omega arith))
      ]
  | inr order ↦ order
]
