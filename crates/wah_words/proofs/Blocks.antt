-- Blocks of literals beside literals.
use Rattle.std.proofs.Common.{◌≡◌, ℕ, zero, suc, ◌^◌, ◌<◌, ◌∙◌, Bool, List, [], ◌∷◌, ◌++◌, length, get_or, take, drop, replicate, refl, sym, ap, arith}
use Rattle.std.proofs.lemmas.List.{append_assoc, length-append}
use Rattle.std.proofs.lemmas.List.Concat.{flat_map-append}
use Rattle.wah_words.specs.Group.{group_rows, unpacked}
use Rattle.wah_words.specs.Rows.{pointwise}
use Rattle.wah_words.specs.Word.{word_groups, groups}
use Rattle.wah_words.specs.Walk.{Continues, AreMixed, IsBlock}
use Rattle.wah_words.proofs.Pointwise.{pointwise-append}
use Rattle.wah_words.proofs.Spelled.{length-group_rows, length-unpacked}
use Rattle.wah_words.proofs.Words.{groups-cons, groups-split, run_count-literal, run_group-literal}

-- literals are their own groups
pub groups-literals : (words : List ℕ) → ((k : ℕ) → k < length words → get_or words k 0 < 2 ^ 31) → groups words ≡ words
groups-literals [] low = refl
groups-literals (w ∷ words) low =
    let below : w < 2 ^ 31 = low 0 (omega arith) in
    groups-cons w words
    ∙ rw (run_count-literal w below, run_group-literal w below)
    (ap (λ rest. w ∷ rest) (groups-literals words (λ k within. low (suc k) (omega arith))))

-- literals more are as many groups more
pub groups-push_literals : (words block : List ℕ) → AreMixed block → groups (words ++ block) ≡ groups words ++ block
groups-push_literals words block mixed =
    flat_map-append word_groups words block
    ∙ ap (λ rest. groups words ++ rest)
    (groups-literals block (λ k within. omega (arith, mixed.some_false k within)))

IsBlock-tail : (bit : Bool → Bool → Bool) (x y z : ℕ) (a b block : List ℕ)
    → IsBlock bit (x ∷ a) (y ∷ b) (z ∷ block) → IsBlock bit a b block
IsBlock-tail bit x y z a b block is = record {
  left = omega (arith, is.left);
  right = omega (arith, is.right);
  made = λ k within. is.made (suc k) (omega arith);
}

-- the rows of a block are what the operation makes of the rows of the literals
unpacked-block : (bit : Bool → Bool → Bool) (a b block : List ℕ) → IsBlock bit a b block
    → unpacked block ≡ pointwise bit (unpacked a) (unpacked b)
unpacked-block bit [] b [] is = refl
unpacked-block bit [] b (z ∷ block) is = absurd (omega (arith, is.left))
unpacked-block bit (x ∷ a) b [] is = absurd (omega (arith, is.left))
unpacked-block bit (x ∷ a) [] (z ∷ block) is = absurd (omega (arith, is.right))
unpacked-block bit (x ∷ a) (y ∷ b) (z ∷ block) is =
    ap (λ rows. rows ++ unpacked block) (is.made 0 (omega arith)).rows
    ∙ ap (λ rest. pointwise bit (group_rows x) (group_rows y) ++ rest)
    (unpacked-block bit a b block (IsBlock-tail bit x y z a b block is))
    ∙ sym (pointwise-append bit (group_rows x) (group_rows y) (unpacked a) (unpacked b)
    (length-group_rows x ∙ sym (length-group_rows y)))

-- one step after another
pub continues-continues : (bit : Bool → Bool → Bool) (out a b next next_a next_b last last_a last_b : List ℕ)
    → Continues bit out a b next next_a next_b → Continues bit next next_a next_b last last_a last_b
    → Continues bit out a b last last_a last_b
continues-continues bit out a b next next_a next_b last last_a last_b first second = record {
  rows = second.rows ∙ first.rows;
  same = second.same;
  size = second.size ∙ first.size;
  longer = omega (arith, first.longer, second.longer);
}

-- a block of literals on each side
pub continues_block : (bit : Bool → Bool → Bool) (out a b block : List ℕ) (n : ℕ)
    → IsBlock bit (take n a) (take n b) block → length (groups a) ≡ length (groups b)
    → Continues bit out (groups a) (groups b) (out ++ block) (groups (drop n a)) (groups (drop n b))
continues_block bit out a b block n is same =
    let rest_a = groups (drop n a) in
    let rest_b = groups (drop n b) in
    let left : groups a ≡ take n a ++ rest_a =
    groups-split a n
    ∙ ap (λ front. front ++ rest_a)
    (groups-literals (take n a) (λ k within. (is.made k (omega (arith, is.left))).left)) in
    let right : groups b ≡ take n b ++ rest_b =
    groups-split b n
    ∙ ap (λ front. front ++ rest_b)
    (groups-literals (take n b) (λ k within. (is.made k (omega (arith, is.right))).right)) in
    let long : length (unpacked (take n a)) ≡ length (unpacked (take n b)) =
    omega (arith, length-unpacked (take n a), length-unpacked (take n b), is.left, is.right) in
    let rest = pointwise bit (unpacked rest_a) (unpacked rest_b) in
    record {
      rows =
          ap (λ rows. rows ++ rest) (flat_map-append group_rows out block)
          ∙ append_assoc (unpacked out) (unpacked block) rest
          ∙ ap (λ rows. unpacked out ++ (rows ++ rest)) (unpacked-block bit (take n a) (take n b) block is)
          ∙ ap (λ rows. unpacked out ++ rows)
          (sym (pointwise-append bit (unpacked (take n a)) (unpacked (take n b)) (unpacked rest_a)
          (unpacked rest_b) long)
          ∙ ap (λ rows. pointwise bit rows (unpacked (take n b) ++ unpacked rest_b))
          (sym (flat_map-append group_rows (take n a) rest_a))
          ∙ ap (λ rows. pointwise bit (unpacked (take n a ++ rest_a)) rows)
          (sym (flat_map-append group_rows (take n b) rest_b))
          ∙ ap (λ gs. pointwise bit (unpacked gs) (unpacked (take n b ++ rest_b))) (sym left)
          ∙ ap (λ gs. pointwise bit (unpacked (groups a)) (unpacked gs)) (sym right));
      same = omega (
        arith,
        ap length left,
        ap length right,
        length-append (take n a) rest_a,
        length-append (take n b) rest_b,
        is.left,
        is.right,
      );
      size = omega (arith, ap length left, length-append (take n a) rest_a, length-append out block, is.left);
      longer = omega (arith, length-append out block);
    }

-- the same between two cursors that stand at a word
pub continues_cursors : (bit : Bool → Bool → Bool) (out a b block : List ℕ) (n count_a group_a count_b group_b : ℕ)
    → count_a ≡ 0 → count_b ≡ 0 → IsBlock bit (take n a) (take n b) block
    → length (replicate count_a group_a ++ groups a) ≡ length (replicate count_b group_b ++ groups b)
    → Continues bit out (replicate count_a group_a ++ groups a) (replicate count_b group_b ++ groups b) (out ++ block)
    (replicate count_a group_a ++ groups (drop n a)) (replicate count_b group_b ++ groups (drop n b))
continues_cursors bit out a b block n zero group_a zero group_b done_a done_b is same =
    continues_block bit out a b block n is same
continues_cursors bit out a b block n (suc count_a) group_a count_b group_b done_a done_b is same =
    absurd (omega arith)
continues_cursors bit out a b block n zero group_a (suc count_b) group_b done_a done_b is same =
    absurd (omega arith)
