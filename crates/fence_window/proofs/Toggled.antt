-- Pages of a list in which some rows are turned.
use Rattle.std.proofs.Common.{◌≡◌, ◌≢◌, ℕ, ◌+◌, ◌-◌, ◌*◌, ◌/◌, ◌%◌, ◌<◌, ◌≤◌, ◌∙◌, Bool, true, false, List, ◌++◌, length, get_or, take, drop, refl, sym, ap, subst, arith, inl, inr}
use Rattle.std.specs.Prelude.{All, ◌||◌, slice_index, slice_index_or}
use Rattle.std.specs.List.Sorted.{IsStrictlyIncreasing}
use Rattle.std.proofs.lemmas.Bool.{cases_lt}
use Rattle.std.proofs.lemmas.List.{append_assoc, get_or_append_left, get_or-append_right, get_or-drop, get_or-take, get_or_default, get_or_past, length-append, length-drop, length-take-le}
use Rattle.std.proofs.lemmas.List.Elements.{All-append}
use Rattle.std.proofs.lemmas.List.Kept.{AllPairs-from_increasing}
use Rattle.wah_words.specs.Group.{group_at, group_row, unpacked}
use Rattle.wah_words.specs.Word.{groups}
use Rattle.wah_words.specs.Rows.{IsToggled, differs, has}
use Rattle.wah_words.specs.Place.{AreFences, IsAfter, page_count}
use Rattle.wah_words.specs.Stretch.{AreFencesFrom, pages_from}
use Rattle.wah_words.specs.declared.place.Place.{Place}
use Rattle.fence_window.specs.Turned.{AreRowsToggled, IsCopied}

-- what no place before the first is, none is
pub from_first : (places : List ℕ) (low : ℕ) → IsStrictlyIncreasing places
    → (0 < length places → low ≤ get_or places 0 0) → All (λ place. low ≤ place) places
from_first places low rising first = λ k d within.
    let some : 0 < length places = omega (arith, within) in
    elim (cases_lt 0 k) [
      | inl later ↦
          omega (
            arith,
            first some,
            get_or_default places 0 d 0 some,
            AllPairs-from_increasing places rising 0 k d later within,
          )
      | inr none ↦
          let here : k ≡ 0 = omega (arith, none) in
          omega (arith, first some, get_or_default places 0 d 0 some, ap (λ i. get_or places i d) here)
    ]

-- nor is any from some place on
pub from_place : (places : List ℕ) (at low : ℕ) → IsStrictlyIncreasing places → at < length places
    → low ≤ get_or places at 0 → All (λ place. low ≤ place) (drop at places)
from_place places at low rising inside first = λ k d within.
    let here : at + k < length places = omega (arith, within, length-drop at places) in
    let is = get_or-drop at places k d in
    elim (cases_lt 0 k) [
      | inl later ↦
          omega (
            arith,
            first,
            is,
            get_or_default places at d 0 inside,
            AllPairs-from_increasing places rising at (at + k) d (omega (arith, later)) here,
          )
      | inr none ↦
          let same : at + k ≡ at = omega (arith, none) in
          omega (arith, first, is, get_or_default places at d 0 inside, ap (λ i. get_or places i d) same)
    ]

-- the places of some pages
pub fences_part : (words : List ℕ) (fences : List Place) (before from count : ℕ) → AreFences words fences
    → before ≡ 128 * from → from + count ≤ length fences → AreFencesFrom words before (take count (drop from fences))
fences_part words fences before from count are is within = λ page other below.
    let inside : page < count =
    omega (arith, below, length-take-le count (drop from fences) (omega (arith, within, length-drop from fences))) in
    let at : 128 * (from + page) ≡ before + 128 * page = omega (arith, is) in
    subst (λ n. IsAfter words n (get_or (take count (drop from fences)) page other)) at
    (subst (IsAfter words (128 * (from + page)))
    (sym (get_or-take count (drop from fences) page other inside ∙ get_or-drop from fences page other))
    (are (from + page) other (omega (arith, inside, within))))

-- pages of the words behind what was written
pub copied_are : (list : List Bool) (words old : List ℕ) (from pages page : ℕ) → length old ≡ 128 * from
    → from + pages ≡ page → 128 * page ≤ length (groups words)
    → ((k : ℕ) → get_or (groups words) k 0 ≡ group_at list k)
    → IsCopied list old page (old ++ pages_from words (length old) pages)
copied_are list words old from pages page is ends within each =
    let part = pages_from words (length old) pages in
    let long : length part ≡ 128 * pages =
    length-take-le (128 * pages) (drop (length old) (groups words))
    (omega (arith, is, ends, within, length-drop (length old) (groups words))) in
    record {
      long = omega (arith, length-append old part, long, is, ends);
      before = λ k below. get_or_append_left old part 0 k below;
      behind = λ k from_old below.
          let at : length old + (k - length old) ≡ k = omega (arith, from_old) in
          get_or-append_right old part (length old) k 0 refl from_old
          ∙ get_or-take (128 * pages) (drop (length old) (groups words)) (k - length old) 0
          (omega (arith, from_old, below, is, ends))
          ∙ get_or-drop (length old) (groups words) (k - length old) 0
          ∙ ap (λ n. get_or (groups words) n 0) at
          ∙ each k;
    }

-- ---- page after page

-- the rows of the pages that are written are turned at their places, and the other places are left
pub record IsTurnedTo (list : List Bool) (places rest writer : List ℕ) (from pages : ℕ) : Type 0 where
  pub front : List ℕ
  pub whole : places ≡ front ++ rest
  pub rising : IsStrictlyIncreasing rest
  pub before : All (λ place. place < 3968 * from) front
  pub behind : All (λ place. 3968 * from ≤ place) rest
  pub size : length writer ≡ 128 * from
  pub most : from ≤ pages
  pub rows : (row : ℕ) → row < 31 * length writer → group_row (slice_index writer (row / 31)) (row % 31)
      ≡ differs (slice_index_or list row false) (has places row)

-- what is known of groups and places
pub record Laws (list : List Bool) : Type 0 where
  pub row : (k place : ℕ) → place < 31 → get_or list (31 * k + place) false ≡ group_row (group_at list k) place
  pub parted : (a b : List ℕ) (row : ℕ) → has (a ++ b) row ≡ (has a row || has b row)
  pub absent : (places : List ℕ) (row : ℕ) → All (λ place. place ≢ row) places → has places row ≡ false
  pub zero : (place : ℕ) → place < 31 → group_row 0 place ≡ false

differs-false : (value : Bool) → differs value false ≡ value
differs-false true = refl
differs-false false = refl

or-false : (value : Bool) → (value || false) ≡ value
or-false true = refl
or-false false = refl

absent_front : (list : List Bool) (places : List ℕ) (end row : ℕ) → Laws list → All (λ place. place < end) places
    → end ≤ row → has places row ≡ false
absent_front list places end row laws each past =
    laws.absent places row (λ k d within same. absurd (omega (arith, each k d within, same, past)))

absent_behind : (list : List Bool) (places : List ℕ) (low row : ℕ) → Laws list → All (λ place. low ≤ place) places
    → row < low → has places row ≡ false
absent_behind list places low row laws each before =
    laws.absent places row (λ k d within same. absurd (omega (arith, each k d within, same, before)))

-- one page more, and those before it that are copied
pub turned_on : (list : List Bool) (places rest writer : List ℕ) (from pages page : ℕ) (mid here after : List ℕ)
    (groups : List ℕ) → Laws list → IsTurnedTo list places rest writer from pages → page < pages → from ≤ page
    → IsCopied list writer page mid → rest ≡ here ++ after → IsStrictlyIncreasing after
    → All (λ place. 3968 * page ≤ place) rest → All (λ place. place < 3968 * page + 3968) here
    → All (λ place. 3968 * page + 3968 ≤ place) after → length groups ≡ 128
    → AreRowsToggled list here (3968 * page) groups
    → IsTurnedTo list places after (mid ++ groups) (page + 1) pages
turned_on list places rest writer from pages page mid here after groups laws is below order copied parts rising far
    near behind long turned =
    let next : 3968 * page + 3968 ≡ 3968 * (page + 1) = omega arith in
    let all : places ≡ (is.front ++ here) ++ after =
    is.whole ∙ ap (λ others. is.front ++ others) parts ∙ sym (append_assoc is.front here after) in
    record {
      front = is.front ++ here;
      whole = all;
      rising = rising;
      before = All-append (λ place. place < 3968 * (page + 1)) is.front here
          (λ k d within. omega (arith, is.before k d within, order))
          (λ k d within. omega (arith, near k d within));
      behind = λ k d within. omega (arith, behind k d within);
      size = omega (arith, length-append mid groups, copied.long, long);
      most = omega (arith, below);
      rows = λ row within.
          let k = row / 31 in
          let place = row % 31 in
          let end : row < 3968 * page + 3968 = omega (arith, within, length-append mid groups, copied.long, long) in
          elim (cases_lt k (length mid)) [
            | inl early ↦
                ap (λ g. group_row g place) (get_or_append_left mid groups 0 k early)
                ∙ (elim (cases_lt k (length writer)) [
                  | inl written ↦
                      ap (λ g. group_row g place) (copied.before k written)
                      ∙ is.rows row (omega (arith, written))
                  | inr whole ↦
                      let low : 3968 * from ≤ row = omega (arith, whole, is.size) in
                      let high : row < 3968 * page = omega (arith, early, copied.long) in
                      let at : 31 * k + place ≡ row = omega arith in
                      ap (λ g. group_row g place) (copied.behind k whole (omega (arith, early, copied.long)))
                      ∙ sym (laws.row k place (omega arith))
                      ∙ ap (λ n. get_or list n false) at
                      ∙ sym (differs-false (get_or list row false))
                      ∙ ap (differs (get_or list row false)) (sym (ap (λ ps. has ps row) is.whole
                      ∙ laws.parted is.front rest row
                      ∙ ap (λ first. first || has rest row)
                      (absent_front list is.front (3968 * from) row laws is.before low)
                      ∙ absent_behind list rest (3968 * page) row laws far high))
                ])
            | inr late ↦
                let low : 3968 * page ≤ row = omega (arith, late, copied.long) in
                let own = row - 3968 * page in
                let at : 3968 * page + own ≡ row = omega (arith, low) in
                let group_at_own : k - length mid ≡ own / 31 = omega (arith, low, copied.long) in
                let place_own : place ≡ own % 31 = omega (arith, low) in
                ap (λ g. group_row g place) (get_or-append_right mid groups (length mid) k 0 refl late)
                ∙ ap (λ n. group_row (get_or groups n 0) place) group_at_own
                ∙ ap (group_row (get_or groups (own / 31) 0)) place_own
                ∙ turned own (omega (arith, long, low, end))
                ∙ ap (λ n. differs (get_or list n false) (has here n)) at
                ∙ ap (differs (get_or list row false)) (sym (ap (λ ps. has ps row) all
                ∙ laws.parted (is.front ++ here) after row
                ∙ ap (λ last. has (is.front ++ here) row || last)
                (absent_behind list after (3968 * page + 3968) row laws behind end)
                ∙ or-false (has (is.front ++ here) row)
                ∙ laws.parted is.front here row
                ∙ ap (λ first. first || has here row)
                (absent_front list is.front (3968 * from) row laws is.before (omega (arith, low, order)))))
          ];
    }

-- all pages
pub turned_all : (list : List Bool) (places rest writer : List ℕ) (from pages rows : ℕ) → Laws list
    → IsTurnedTo list places rest writer from pages → pages ≤ from → pages ≡ page_count rows → length list ≤ rows
    → All (λ place. place < rows) places
    → ((row : ℕ) → get_or (unpacked writer) row false ≡ group_row (get_or writer (row / 31) 0) (row % 31))
    → IsToggled list places (unpacked writer)
turned_all list places rest writer from pages rows laws is end count longer below unpacked_row = record {
  each = λ row.
      unpacked_row row
      ∙ (elim (cases_lt row (31 * length writer)) [
        | inl inside ↦ is.rows row inside
        | inr past ↦
            let far : rows ≤ row = omega (arith, past, is.size, end, count) in
            ap (λ g. group_row g (row % 31)) (get_or_past writer (row / 31) 0 (omega (arith, past)))
            ∙ laws.zero (row % 31) (omega arith)
            ∙ sym (ap (λ value. differs value (has places row))
            (get_or_past list row false (omega (arith, longer, far)))
            ∙ ap (differs false) (absent_front list places rows row laws below far))
      ]);
}
