use Rattle.std.proofs.Common.{◌≡◌, ◌+◌, ◌-◌, ◌*◌, ◌/◌, ◌∙◌, ℕ, zero, suc, false, eqb, ◌<◌, sym, ap, arith, length, drop, take}
use Rattle.std.proofs.lemmas.List.{length_push, length-drop, take_all}
use Rattle.wah_words.specs.Group.{unpacked}
use Rattle.wah_words.proofs.Spelled.{whole_group, last_group}
use Rattle.wah_words.proofs.wah.Wah.groups_of.Goals as goal

some_from_test : (n : ℕ) → eqb n 0 ≡ false → 0 < n
some_from_test zero test = cc
some_from_test (suc n) test = omega arith

pub loop-i-preserved : goal.loop-i-preserved
loop-i-preserved c =
    let rows = c.args.rows.now in
    let start = 31 * c.loop-i.i in
    let size : start + 31 - start ≡ 31 = omega arith in
    let held =
    whole_group c.loop-i.out rows (take (start + 31 - start) (drop start rows)) c.loop-i.i c.group_of.result
    c.loop-i.invariant.0 (ap (λ n. take n (drop start rows)) size) (omega arith) c.group_of.ensures.rows in (
      ap unpacked c.in_ok-push_group.ensures.ok ∙ held,
      omega (arith, ap length c.in_ok-push_group.ensures.ok, length_push c.loop-i.out c.group_of.result),
    )

pub returns : goal.returns
returns c =
    let rows = c.args.rows.now in
    let start = 31 * (length rows / 31) in
    let chunk = take (length rows - start) (drop start rows) in
    let all : chunk ≡ drop start rows =
    take_all (length rows - start) (drop start rows) (omega (arith, length-drop start rows)) in
    let long : length chunk ≡ length rows - start = ap length all ∙ length-drop start rows in
    let whole : c.loop-i.i ≡ length rows / 31 = omega arith in
    record {
      padding = 31 - length chunk;
      few = omega (arith, some_from_test (length chunk) (sym c.is_empty.ensures ∙ c.if-is_empty.false));
      is = ap unpacked c.in_ok-push_group-2.ensures.ok
          ∙ last_group c.loop-i.out rows chunk (length rows / 31) c.group_of-2.result
          (c.loop-i.invariant.0 ∙ ap (λ i. take (31 * i) rows) whole) all c.group_of-2.ensures.rows;
    }
