use Rattle.std.proofs.Common.{◌++◌, ◌∙◌, take, sym, ap, subst, arith, length}
use Rattle.std.specs.Prelude.{bit_and}
use Rattle.std.proofs.lemmas.Nat.{and_mask}
use Rattle.std.proofs.lemmas.List.{length-append}
use Rattle.std.proofs.lemmas.List.Concat.{flat_map-append}
use Rattle.wah_words.specs.Word.{groups, word_groups}
use Rattle.wah_words.specs.Pages.{ArePaged, underway}
use Rattle.wah_words.specs.declared.place.Place.{Place}
use Rattle.wah_words.proofs.Paged.{paged_more, groups-written, length-underway}
use Rattle.wah_words.proofs.pages.PageWriter.push_page.Goals as goal

pub write-len-requires-clause-room : goal.write-len-requires-clause-room
write-len-requires-clause-room c =
    let words = c.self.inside.words.items in
    let run = c.self.inside.run in
    omega (
      arith,
      length-underway run c.self.invariant.fill,
      ap length (sym c.self.view_is ∙ flat_map-append word_groups words (underway run)),
      length-append (groups words) (groups (underway run)),
      c.requires.room,
    )

pub invariant_of-self-2 : goal.invariant_of-self-2
invariant_of-self-2 c =
    let words = c.self.inside.words.items in
    let written = take c.write-len.result.0 c.write-len.new.out in
    let starts = c.self.inside.starts.items in
    let next = c.write-len.result.1 in
    let start : Place = record { word = c.len.result; skipped = bit_and c.self.inside.run 1073741823 } in
    subst (λ all. ArePaged all next c.push.new.self.items) (sym c.in_default.ensures.items)
    (subst (ArePaged (words ++ written) next) (sym c.in_ok-push.ensures.items)
    (paged_more words c.self.inside.run starts c.args.page.now written next start c.self.invariant
    c.write-len.ensures.writes c.write-len.ensures.fill c.told-page (omega arith) (and_mask c.self.inside.run 30)))

pub returns-clause-ok : goal.returns-clause-ok
returns-clause-ok c =
    ap (λ words. groups (words ++ underway c.write-len.result.1)) c.in_default.ensures.items
    ∙ groups-written c.self.inside.words.items c.self.inside.run c.args.page.now _ c.write-len.result.1
    c.write-len.ensures.writes
    ∙ ap (λ front. front ++ c.args.page.now) c.self.view_is
