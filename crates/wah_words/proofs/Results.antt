-- Groups that an operation made, as the rows of a bitvector.
use Rattle.std.proofs.Common.{◌≡◌, ℕ, ◌≤◌, ◌∙◌, Bool, false, not, List, length, take, drop, map, ap, arith}
use Rattle.std.specs.Prelude.{All}
use Rattle.std.proofs.lemmas.List.{take-map, length-map}
use Rattle.wah_words.specs.Group.{unpacked, group_count}
use Rattle.wah_words.specs.Word.{groups}
use Rattle.wah_words.specs.Rows.{pointwise, cleared}
use Rattle.wah_words.specs.Canonical.{IsCanonical, spelled_rows}
use Rattle.wah_words.proofs.Spelled.{length-unpacked, length-spelled_rows}
use Rattle.wah_words.proofs.Pointwise.{take-pointwise, drop-pointwise, length-pointwise, All-pointwise, take-cleared, length-cleared}

-- the groups of canonical words hold the rows
rows-le : (words : List ℕ) (rows : ℕ) → IsCanonical words rows → rows ≤ length (unpacked (groups words))
rows-le words rows canonical = omega (arith, length-unpacked (groups words), canonical.size)

-- the complement
pub record IsComplement (out words : List ℕ) (rows : ℕ) : Type 0 where
  pub canonical : IsCanonical words rows
  pub is : unpacked out ≡ cleared rows (map not (unpacked (groups words)))

-- the complement has the groups of the rows
pub length-complement : (out words : List ℕ) (rows : ℕ) → IsComplement out words rows → length out ≡ group_count rows
length-complement out words rows made =
    let all = map not (unpacked (groups words)) in
    let long = length-map (unpacked (groups words)) not in
    let within = rows-le words rows made.canonical in
    omega (
      arith,
      length-unpacked out,
      ap length made.is,
      length-cleared rows all (omega arith),
      length-unpacked (groups words),
      made.canonical.size,
    )

-- its rows are the others
pub rows-complement : (out words : List ℕ) (rows : ℕ) → IsComplement out words rows
    → take rows (unpacked out) ≡ map not (spelled_rows words rows)
rows-complement out words rows made =
    ap (take rows) made.is
    ∙ take-cleared rows (map not (unpacked (groups words)))
    (omega (arith, rows-le words rows made.canonical, length-map (unpacked (groups words)) not))
    ∙ take-map not rows (unpacked (groups words))

-- what an operation makes of two bitvectors
pub record IsCombined (bit : Bool → Bool → Bool) (out a b : List ℕ) (rows : ℕ) : Type 0 where
  pub left : IsCanonical a rows
  pub right : IsCanonical b rows
  pub padding : bit false false ≡ false
  pub is : unpacked out ≡ pointwise bit (unpacked (groups a)) (unpacked (groups b))

same_length : (a b : List ℕ) (rows : ℕ) → IsCanonical a rows → IsCanonical b rows
    → length (unpacked (groups a)) ≡ length (unpacked (groups b))
same_length a b rows left right =
    omega (arith, length-unpacked (groups a), length-unpacked (groups b), left.size, right.size)

-- what an operation makes has the groups of the rows
pub length-combined : (bit : Bool → Bool → Bool) (out a b : List ℕ) (rows : ℕ) → IsCombined bit out a b rows
    → length out ≡ group_count rows
length-combined bit out a b rows made =
    omega (
      arith,
      length-unpacked out,
      ap length made.is,
      length-pointwise bit (unpacked (groups a)) (unpacked (groups b)) (same_length a b rows made.left made.right),
      length-unpacked (groups a),
      made.left.size,
    )

-- it has no true row past the last
pub padding-combined : (bit : Bool → Bool → Bool) (out a b : List ℕ) (rows : ℕ) → IsCombined bit out a b rows
    → All (λ row. row ≡ false) (drop rows (unpacked out))
padding-combined bit out a b rows made =
    rw (
      made.is,
      drop-pointwise bit rows (unpacked (groups a)) (unpacked (groups b)) (same_length a b rows made.left made.right),
    )
    (All-pointwise bit (drop rows (unpacked (groups a)))
    (drop rows (unpacked (groups b))) made.padding made.left.padding made.right.padding)

-- its rows are what the operation makes of the two lists
pub rows-combined : (bit : Bool → Bool → Bool) (out a b : List ℕ) (rows : ℕ) → IsCombined bit out a b rows
    → take rows (unpacked out) ≡ pointwise bit (spelled_rows a rows) (spelled_rows b rows)
rows-combined bit out a b rows made = ap (take rows) made.is
    ∙ take-pointwise bit rows (unpacked (groups a)) (unpacked (groups b))

-- two bitvectors of one length have as many rows
pub same_rows : (a b : List ℕ) (n m : ℕ) → IsCanonical a n → IsCanonical b m
    → length (spelled_rows a n) ≡ length (spelled_rows b m) → m ≡ n
same_rows a b n m left right same = omega (arith, length-spelled_rows a n left, length-spelled_rows b m right)
