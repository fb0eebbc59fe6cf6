-- Words from the front of others, measured.
use Rattle.std.proofs.Common.{◌≡◌, ℕ, ◌+◌, ◌<◌, ◌≤◌, ◌∙◌, List, ◌++◌, length, get_or, take, drop, sym, ap, arith, take-add}
use Rattle.std.proofs.lemmas.List.{length-append, length-drop}
use Rattle.std.proofs.lemmas.List.Concat.{flat_map-append}
use Rattle.wah_words.specs.Front.{IsFront}
use Rattle.wah_words.specs.Word.{groups, run_count, word_groups}
use Rattle.wah_words.proofs.Words.{length-groups-take-more}

-- one word more
pub front_word : (words : List ℕ) (most count group_count : ℕ) → IsFront words most count group_count
    → count < length words → group_count + run_count (get_or words count 0) ≤ most
    → IsFront words most (count + 1) (group_count + run_count (get_or words count 0))
front_word words most count group_count front within few = record {
  within = omega arith;
  is = omega (arith, front.is, length-groups-take-more words count within);
  few = few;
}

-- a span more
pub front_span : (words span : List ℕ) (most count group_count n more : ℕ) → IsFront words most count group_count
    → n ≤ length (drop count words) → span ≡ take n (drop count words) → more ≡ length (groups span)
    → group_count + more ≤ most → IsFront words most (count + n) (group_count + more)
front_span words span most count group_count n more front within is counts few = record {
  within = omega (arith, front.within, length-drop count words);
  is =
      let parted : groups (take (count + n) words) ≡ groups (take count words) ++ groups span =
      ap groups (take-add count n words ∙ ap (λ end. take count words ++ end) (sym is))
      ∙ flat_map-append word_groups (take count words) span in
      omega (arith, ap length parted, length-append (groups (take count words)) (groups span), front.is, counts);
  few = few;
}
