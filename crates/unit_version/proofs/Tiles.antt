-- The groups of one page, for many bins at once.
use Rattle.std.proofs.Common.{◌≡◌, ◌≢◌, ℕ, zero, suc, ◌+◌, ◌*◌, ◌%◌, ◌^◌, ◌<◌, ◌≤◌, ◌==◌, ◌∙◌, Bool, true, false, List, [], ◌∷◌, ◌++◌, length, get_or, set, take, drop, refl, sym, ap, inl, inr, arith}
use Rattle.std.specs.Prelude.{bit_or}
use lib.Lanes.{mask_l}
use Rattle.std.proofs.lemmas.Bool.{cases_eq}
use Rattle.std.proofs.lemmas.Bool.Decides.{nat_tests}
use Rattle.std.proofs.lemmas.List.{get_or-drop, get_or-set_same, get_or-set_other, length-set, length-drop, drop-append-le, take_all, map_push, length_push, length-map}
use Rattle.std.proofs.Math.Nat.{pow-succ'}
use Rattle.std.proofs.lemmas.Nat.{or_comm, or_shifted, one_shl}
use Rattle.std.proofs.lemmas.Simd.{mask_l-lt}
use Rattle.wah_words.specs.Group.{group_at}
use Rattle.unit_version.specs.Tile.{rows_of, IsTile}

-- ---- groups by their rows

mask-none : (n : ℕ) (rows : List Bool) → ((i : ℕ) → i < n → get_or rows i false ≡ false) → mask_l (take n rows) ≡ 0
mask-none zero rows none = refl
mask-none (suc n) [] none = refl
mask-none (suc n) (row ∷ rows) none =
    let rest : mask_l (take n rows) ≡ 0 = mask-none n rows (λ i low. none (suc i) (omega arith)) in
    let first : row ≡ false = none 0 (omega arith) in
    rw (first, rest) (omega arith)

mask-same : (n : ℕ) (a b : List Bool) → ((i : ℕ) → i < n → get_or a i false ≡ get_or b i false)
    → mask_l (take n a) ≡ mask_l (take n b)
mask-same n [] b same = mask-none n [] (λ i low. refl) ∙ sym (mask-none n b (λ i low. sym (same i low)))
mask-same n (x ∷ a) [] same = mask-none n (x ∷ a) same ∙ sym (mask-none n [] (λ i low. refl))
mask-same zero (x ∷ a) (y ∷ b) same = refl
mask-same (suc n) (x ∷ a) (y ∷ b) same =
    let rest : mask_l (take n a) ≡ mask_l (take n b) = mask-same n a b (λ i low. same (suc i) (omega arith)) in
    let first : x ≡ y = same 0 (omega arith) in
    rw (first, rest) refl

-- the groups of a list without true rows
pub group_at-none : (rows : List Bool) (k : ℕ) → ((i : ℕ) → get_or rows i false ≡ false) → group_at rows k ≡ 0
group_at-none rows k none =
    mask-none 31 (drop (31 * k) rows) (λ i low. get_or-drop (31 * k) rows i false ∙ none (31 * k + i))

-- groups with the same rows
pub group_at-same : (a b : List Bool) (j k : ℕ)
    → ((at : ℕ) → at < 31 → get_or a (31 * j + at) false ≡ get_or b (31 * k + at) false) → group_at a j ≡ group_at b k
group_at-same a b j k same =
    mask-same 31 (drop (31 * j) a) (drop (31 * k) b)
    (λ at low. get_or-drop (31 * j) a at false ∙ same at low ∙ sym (get_or-drop (31 * k) b at false))

-- ---- one row more

get_or-push_other : (rows : List Bool) (row : Bool) (i : ℕ) → i ≢ length rows
    → get_or (rows ++ row ∷ []) i false ≡ get_or rows i false
get_or-push_other [] row zero other = absurd (other refl)
get_or-push_other [] row (suc i) other = refl
get_or-push_other (x ∷ rows) row zero other = refl
get_or-push_other (x ∷ rows) row (suc i) other = get_or-push_other rows row i (λ same. other (ap suc same))

get_or-push_false : (rows : List Bool) (i : ℕ) → get_or (rows ++ false ∷ []) i false ≡ get_or rows i false
get_or-push_false [] zero = refl
get_or-push_false [] (suc i) = refl
get_or-push_false (x ∷ rows) zero = refl
get_or-push_false (x ∷ rows) (suc i) = get_or-push_false rows i

-- a row that is false changes no group, and one that is true changes its own
pub group_at-push_false : (rows : List Bool) (k : ℕ) → group_at (rows ++ false ∷ []) k ≡ group_at rows k
group_at-push_false rows k =
    group_at-same (rows ++ false ∷ []) rows k k (λ at low. get_or-push_false rows (31 * k + at))

pub group_at-push_other : (rows : List Bool) (row : Bool) (g at k : ℕ) → length rows ≡ 31 * g + at → at < 31 → k ≢ g
    → group_at (rows ++ row ∷ []) k ≡ group_at rows k
group_at-push_other rows row g at k long low other =
    group_at-same (rows ++ row ∷ []) rows k k
    (λ i within. get_or-push_other rows row (31 * k + i) (λ same. other (omega (arith, long, same))))

mask-push_true : (rows : List Bool) → mask_l (rows ++ true ∷ []) ≡ 2 ^ length rows + mask_l rows
mask-push_true [] = refl
mask-push_true (row ∷ rows) =
    let rest = mask-push_true rows in
    let twice : 2 ^ length (row ∷ rows) ≡ 2 * 2 ^ length rows = pow-succ' 2 (length rows) in
    omega (arith, rest, twice)

mask-set : (rows : List Bool) (at : ℕ) → length rows ≡ at → at < 31
    → mask_l (rows ++ true ∷ []) ≡ bit_or (mask_l rows) (1 * 2 ^ at % 2 ^ 32)
mask-set rows at long low =
    let below : mask_l rows < 2 ^ at = rw long at (mask_l-lt rows) in
    let one : 1 * 2 ^ at % 2 ^ 32 ≡ 2 ^ at = one_shl at 32 (omega arith) in
    let whole : 1 * 2 ^ at ≡ 2 ^ at = omega arith in
    mask-push_true rows
    ∙ ap (λ n. 2 ^ n + mask_l rows) long
    ∙ sym (ap (λ n. bit_or (mask_l rows) n) (one ∙ sym whole)
    ∙ or_comm (mask_l rows) (1 * 2 ^ at)
    ∙ or_shifted 1 at (mask_l rows) below
    ∙ ap (λ n. n + mask_l rows) whole)

pub group_at-push_true : (rows : List Bool) (g at : ℕ) → length rows ≡ 31 * g + at → at < 31
    → group_at (rows ++ true ∷ []) g ≡ bit_or (group_at rows g) (1 * 2 ^ at % 2 ^ 32)
group_at-push_true rows g at long low =
    let front = drop (31 * g) rows in
    let size : length front ≡ at = omega (arith, length-drop (31 * g) rows, long) in
    let more : length (front ++ true ∷ []) ≤ 31 = omega (arith, length_push front true, size) in
    ap (λ list. mask_l (take 31 list)) (drop-append-le (31 * g) rows (true ∷ []) (omega (arith, long)))
    ∙ ap mask_l (take_all 31 (front ++ true ∷ []) more)
    ∙ mask-set front at size low
    ∙ ap (λ list. bit_or (mask_l list) (1 * 2 ^ at % 2 ^ 32)) (sym (take_all 31 front (omega (arith, size))))

-- ---- tiles

-- the rows of another bin do not grow
rows_of-other : (bin b : ℕ) (bins : List ℕ) → b ≢ bin → rows_of bin (bins ++ b ∷ []) ≡ rows_of bin bins ++ false ∷ []
rows_of-other bin b bins other =
    let is : (b == bin) ≡ false = grind (arith, nat_tests) in
    map_push (λ x. x == bin) bins b ∙ ap (λ row. rows_of bin bins ++ row ∷ []) is

rows_of-own : (bin : ℕ) (bins : List ℕ) → rows_of bin (bins ++ bin ∷ []) ≡ rows_of bin bins ++ true ∷ []
rows_of-own bin bins =
    let is : (bin == bin) ≡ true = grind (arith, nat_tests) in
    map_push (λ x. x == bin) bins bin ∙ ap (λ row. rows_of bin bins ++ row ∷ []) is

-- a group of another bin, or another group, stays
stays : (bins : List ℕ) (b g at bin k : ℕ) → length bins ≡ 31 * g + at → at < 31 → 144 * bin + k ≢ 144 * b + g
    → group_at (rows_of bin (bins ++ b ∷ [])) k ≡ group_at (rows_of bin bins) k
stays bins b g at bin k long low other =
    elim (cases_eq b bin) [
      | inl own ↦
          rw own
          (ap (λ rows. group_at rows k) (rows_of-own bin bins)
          ∙ group_at-push_other (rows_of bin bins) true g at k (length-map bins (λ x. x == bin) ∙ long) low
          (λ same. other (omega (arith, own, same))))
      | inr apart ↦
          ap (λ rows. group_at rows k) (rows_of-other bin b bins apart)
          ∙ group_at-push_false (rows_of bin bins) k
    ]

-- a row whose bin has numbers
pub IsTile-set : (bins tile : List ℕ) (b g at : ℕ) → IsTile bins tile → length bins ≡ 31 * g + at → at < 31 → g < 128
    → 144 * b + g < length tile
    → IsTile (bins ++ b ∷ [])
    (set tile (144 * b + g) (bit_or (get_or tile (144 * b + g) 0) (1 * 2 ^ at % 2 ^ 32)))
IsTile-set bins tile b g at is long low small within =
    let place = 144 * b + g in
    let bits = bit_or (get_or tile place 0) (1 * 2 ^ at % 2 ^ 32) in
    record {
      each = λ bin k few inside.
          let there : 144 * bin + k < length tile = omega (arith, inside, length-set tile place bits) in
          elim (cases_eq (144 * bin + k) place) [
            | inl same ↦
                let bin_is : bin ≡ b = omega (arith, same, few, small) in
                let k_is : k ≡ g = omega (arith, same, few, small) in
                rw (bin_is, k_is)
                (get_or-set_same tile place bits 0 within
                ∙ ap (λ n. bit_or n (1 * 2 ^ at % 2 ^ 32)) (is.each b g (omega (arith, small)) within)
                ∙ sym (group_at-push_true (rows_of b bins) g at (length-map bins (λ x. x == b) ∙ long) low)
                ∙ ap (λ rows. group_at rows g) (sym (rows_of-own b bins)))
            | inr other ↦
                get_or-set_other tile place (144 * bin + k) bits 0 other
                ∙ is.each bin k few there
                ∙ sym (stays bins b g at bin k long low other)
          ];
    }

-- a row whose bin has none
pub IsTile-past : (bins tile : List ℕ) (b g at : ℕ) → IsTile bins tile → length bins ≡ 31 * g + at → at < 31
    → length tile ≤ 144 * b + g → IsTile (bins ++ b ∷ []) tile
IsTile-past bins tile b g at is long low past = record {
  each = λ bin k few inside.
      is.each bin k few inside
      ∙ sym (stays bins b g at bin k long low (λ same. absurd (omega (arith, same, past, inside))));
}
