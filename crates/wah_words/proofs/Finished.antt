-- Open words closed for so many rows.
use Rattle.std.proofs.Common.{◌≡◌, ℕ, ◌+◌, ◌-◌, ◌*◌, ◌%◌, ◌^◌, ◌<◌, ◌≤◌, ◌∙◌, Bool, false, List, [], ◌∷◌, ◌++◌, length, take, drop, replicate, refl, sym, ap, subst, arith, inl, inr}
use Rattle.std.specs.Prelude.{All}
use Rattle.std.proofs.lemmas.List.{append-nil, append_assoc, length-append, length-replicate, take_at, take-append-le, drop-append-le}
use Rattle.std.proofs.lemmas.List.Concat.{flat_map-append}
use Rattle.std.proofs.lemmas.List.Elements.{All-take}
use Rattle.std.proofs.lemmas.Bool.{cases_lt}
use Rattle.wah_words.specs.Group.{group_rows, unpacked, group_count}
use Rattle.wah_words.specs.Word.{run_group, word_groups, groups}
use Rattle.wah_words.specs.Canonical.{AreRuns, IsCanonical}
use Rattle.wah_words.specs.declared.place.Place.{Place}
use Rattle.wah_words.specs.Pages.{underway, IsUnderway, AreOpen, ArePaged}
use Rattle.wah_words.specs.Place.{page_count}
use Rattle.wah_words.proofs.Unique.{groups_within}
use Rattle.wah_words.proofs.Spelled.{length-unpacked}
use Rattle.wah_words.proofs.Written.{underway-some}
use Rattle.wah_words.proofs.PastRows.{EndsFalse, group_past, none_false, ends_underway}
use Rattle.wah_words.proofs.Shorter.{IsShorter, fill-shorter, groups-shorter, runs-shorter}

All-front-of : (a b : List Bool) → All (λ row. row ≡ false) (a ++ b) → All (λ row. row ≡ false) a
All-front-of a b each = subst (All (λ row. row ≡ false)) (take_at a b (length a) refl)
    (All-take (λ row. row ≡ false) (length a) (a ++ b) each)

-- the groups of whole pages that the rows do not take
abbrev pub excess : ℕ → ℕ
excess rows = 128 * page_count rows - group_count rows

-- open words that hold so many rows
pub record Holds (words : List ℕ) (run : ℕ) (starts : List Place) (rows : ℕ) : Type 0 where
  pub paged : ArePaged words run starts
  pub size : length (groups (words ++ underway run)) ≡ 128 * page_count rows
  pub padding : All (λ row. row ≡ false) (drop rows (unpacked (groups (words ++ underway run))))

-- what the rows do not take is under way
past_rows : (words : List ℕ) (run : ℕ) (starts : List Place) (rows : ℕ) → Holds words run starts rows
    → 0 < excess rows → (run_group run ≡ 0) × (excess rows ≤ run % 2 ^ 30)
past_rows words run starts rows holds some =
    let ends : EndsFalse (groups (words ++ underway run)) (excess rows) =
    λ k below past.
    group_past (groups (words ++ underway run)) rows k (groups_within (words ++ underway run)) holds.padding
    (omega (arith, holds.size)) in
    elim (cases_lt 0 run) [
      | inl there ↦
          let last = underway-some run there in
          let within : excess rows ≤ length (groups (words ++ run ∷ [])) =
          omega (arith, holds.size, ap (λ w. length (groups (words ++ w))) last) in
          ends_underway words run (excess rows)
          (subst (λ w. AreRuns (words ++ w)) last holds.paged.opened.runs)
          (holds.paged.fill there).0 some within
          (subst (λ w. EndsFalse (groups (words ++ w)) (excess rows)) last ends)
      | inr none ↦
          let zero_run : run ≡ 0 = omega arith in
          let all : words ++ underway run ≡ words =
          ap (λ r. words ++ underway r) zero_run ∙ append-nil words in
          absurd (none_false words (excess rows) (subst (AreOpen words) zero_run holds.paged.opened) some
          (omega (arith, holds.size, ap (λ w. length (groups w)) all))
          (subst (λ w. EndsFalse (groups w) (excess rows)) all ends))
    ]

-- as many groups are under way
pub enough_underway : (words : List ℕ) (run : ℕ) (starts : List Place) (rows : ℕ) → Holds words run starts rows
    → excess rows ≤ run % 2 ^ 30
enough_underway words run starts rows holds =
    elim (cases_lt 0 (excess rows)) [
      | inl some ↦ (past_rows words run starts rows holds some).1
      | inr none ↦ omega arith
    ]

-- the run without them
pub record Closes (run rows next : ℕ) : Type 0 where
  pub none : next ≡ 0 → run % 2 ^ 30 ≡ excess rows
  pub some : 0 < next → (next + excess rows ≡ run) × (excess rows < run % 2 ^ 30)

shorter : (words : List ℕ) (run : ℕ) (starts : List Place) (rows next : ℕ) → Holds words run starts rows
    → Closes run rows next → IsShorter run (excess rows) next
shorter words run starts rows next holds closes = record {
  none = closes.none;
  some = closes.some;
  false_rows = λ taken. (past_rows words run starts rows holds taken).0;
}

-- all groups, of which the last are taken off
groups-closed : (words : List ℕ) (run : ℕ) (starts : List Place) (rows next : ℕ) → Holds words run starts rows
    → Closes run rows next
    → groups (words ++ underway run) ≡ groups (words ++ underway next) ++ replicate (excess rows) 0
groups-closed words run starts rows next holds closes =
    flat_map-append word_groups words (underway run)
    ∙ ap (λ last. groups words ++ last)
    (groups-shorter run (excess rows) next holds.paged.fill (shorter words run starts rows next holds closes))
    ∙ sym (append_assoc (groups words) (groups (underway next)) (replicate (excess rows) 0))
    ∙ ap (λ front. front ++ replicate (excess rows) 0) (sym (flat_map-append word_groups words (underway next)))

-- the groups that are left are those of the rows
pub length-closed : (words : List ℕ) (run : ℕ) (starts : List Place) (rows next : ℕ) → Holds words run starts rows
    → Closes run rows next → length (groups (words ++ underway next)) ≡ group_count rows
length-closed words run starts rows next holds closes =
    omega (
      arith,
      ap length (groups-closed words run starts rows next holds closes),
      length-append (groups (words ++ underway next)) (replicate (excess rows) 0),
      length-replicate {A = ℕ} (excess rows) 0,
      holds.size,
    )

-- the rows of all groups begin with those that are left
rows-closed : (words : List ℕ) (run : ℕ) (starts : List Place) (rows next : ℕ) → Holds words run starts rows
    → Closes run rows next → unpacked (groups (words ++ underway run))
    ≡ unpacked (groups (words ++ underway next)) ++ unpacked (replicate (excess rows) 0)
rows-closed words run starts rows next holds closes =
    ap unpacked (groups-closed words run starts rows next holds closes)
    ∙ flat_map-append group_rows (groups (words ++ underway next)) (replicate (excess rows) 0)

-- the closed words are canonical
pub canonical-closed : (words : List ℕ) (run : ℕ) (starts : List Place) (rows next : ℕ) → Holds words run starts rows
    → Closes run rows next → IsCanonical (words ++ underway next) rows
canonical-closed words run starts rows next holds closes =
    let left = unpacked (groups (words ++ underway next)) in
    let size = length-closed words run starts rows next holds closes in
    let long : rows ≤ length left = omega (arith, length-unpacked (groups (words ++ underway next)), size) in
    let short = shorter words run starts rows next holds closes in
    record {
      runs = runs-shorter words run (excess rows) next holds.paged.fill short holds.paged.opened.runs;
      size = size;
      padding = All-front-of (drop rows left) (unpacked (replicate (excess rows) 0))
          (subst (All (λ row. row ≡ false))
          (ap (drop rows) (rows-closed words run starts rows next holds closes)
          ∙ drop-append-le rows left (unpacked (replicate (excess rows) 0)) long)
          holds.padding);
    }

-- the closed words spell the first rows
pub list-closed : (words : List ℕ) (run : ℕ) (starts : List Place) (rows next : ℕ) → Holds words run starts rows
    → Closes run rows next
    → take rows (unpacked (groups (words ++ underway next))) ≡ take rows (unpacked (groups (words ++ underway run)))
list-closed words run starts rows next holds closes =
    let left = unpacked (groups (words ++ underway next)) in
    let long : rows ≤ length left =
    omega (
      arith,
      length-unpacked (groups (words ++ underway next)),
      length-closed words run starts rows next holds closes,
    ) in
    sym (ap (take rows) (rows-closed words run starts rows next holds closes)
    ∙ take-append-le rows left (unpacked (replicate (excess rows) 0)) long)

-- what is left is under way
pub fill-closed : (words : List ℕ) (run : ℕ) (starts : List Place) (rows next : ℕ) → Holds words run starts rows
    → Closes run rows next → IsUnderway next
fill-closed words run starts rows next holds closes =
    fill-shorter run (excess rows) next holds.paged.fill (shorter words run starts rows next holds closes)
