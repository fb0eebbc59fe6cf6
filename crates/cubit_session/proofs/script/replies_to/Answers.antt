use Rattle.std.proofs.Common.{[], ◌∷◌, ◌++◌, ◌∙◌, take, refl, sym, ap, subst, arith}
use Rattle.std.specs.Option.{option_copied}
use Rattle.std.proofs.lemmas.List.{take_all}
use Rattle.commit_log.specs.Serial.{serial_terms, serial_handle}
use Rattle.version_store.specs.Memory.{memory_store}
use Rattle.wah_words.specs.Place.{page_count}
use Rattle.query_report.specs.ReplyTable.{replies_of}
use Rattle.cubit_session.specs.Run.{Answers}
use Rattle.cubit_session.specs.Step.{told_by, setting_of}
use Rattle.cubit_session.specs.Through.{HasRun}
use Rattle.cubit_session.specs.Alone.{HasRunAlone}
use Rattle.cubit_session.proofs.Running.{added-first}
use Rattle.cubit_session.proofs.Taking.{taken-next, weight-left, some-order, replies-few}
use Rattle.cubit_session.proofs.script.replies_to.Goals as goal

pub step-requires-clause-spare : goal.step-requires-clause-spare
step-requires-clause-spare g c =
    let is = sym c.get.ensures ∙ ap option_copied c.unwrap-command.ensures in
    let left = weight-left c.args.script.now c.loop-n.n c.unwrap-command.result.now is in
    omega (arith, left, c.loop-n.invariant.spare)

pub step-requires-clause-order : goal.step-requires-clause-order
step-requires-clause-order g c =
    let is = sym c.get.ensures ∙ ap option_copied c.unwrap-command.ensures in
    some-order c.args.script.now c.loop-n.n c.unwrap-command.result.now is c.requires.orders

pub add-requires : goal.add-requires
add-requires g c =
    let s = setting_of (serial_terms g.S.Setup.base g.S.Setup.limits) (page_count c.args.base.now.row_room) in
    let few = replies-few (Answers s c.loop-n.worker.0.seen 0) c.args.script.now c.loop-n.n
    (replies_of c.loop-n.replies 0) c.loop-n.invariant.run.answers in
    omega (arith, few, c.loop-n-test.true, c.len-n-end.type_inv)

pub loop-n-init : goal.loop-n-init
loop-n-init g c =
    let terms = serial_terms g.S.Setup.base g.S.Setup.limits in
    let pages = page_count c.args.base.now.row_room in
    let s = setting_of terms pages in
    let start = c.args.worker.now in
    let none = sym c.new-replies.ensures in
    record {
      run = subst (HasRun s (serial_handle start.0) (serial_handle start.0) []) none
          (c.parts.ensures.none s (serial_handle start.0));
      alone = subst (λ l. HasRunAlone s (told_by serial_handle memory_store start) [] (replies_of l 0)) none
          (c.alone.ensures.none terms s pages start.0 start.1 c.requires.empty c.requires.new);
      spare = c.requires.spare;
      standing = c.requires.standing;
    }

pub loop-n-preserved : goal.loop-n-preserved
loop-n-preserved g c =
    let terms = serial_terms g.S.Setup.base g.S.Setup.limits in
    let pages = page_count c.args.base.now.row_room in
    let s = setting_of terms pages in
    let command = c.unwrap-command.result.now in
    let reply = c.in_ok-reply.reply in
    let is = sym c.get.ensures ∙ ap option_copied c.unwrap-command.ensures in
    let before = told_by serial_handle memory_store c.loop-n.worker in
    let now = told_by serial_handle memory_store c.step.new.self in
    let stood = c.loop-n.invariant.standing.pages_are in
    let step = c.in_ok-reply.ensures.steps in
    let answers = subst (λ n. Answers (setting_of terms n) now.log.seen 0 command reply) stood
    (c.steps.ensures.answers terms c.args.tries command before now reply step) in
    let adds = c.steps.ensures.adds terms c.args.tries command before now reply step in
    let spare = c.steps.ensures.spare terms c.args.tries command before now reply step in
    let left = weight-left c.args.script.now c.loop-n.n command is in
    let taken = sym (taken-next c.args.script.now c.loop-n.n command is) in
    let added = sym c.in_ok-add.ensures.ok in
    let next = c.parts.ensures.next s (serial_handle c.args.worker.now.0) before.log now.log _ c.loop-n.replies command
    reply c.loop-n.invariant.run answers adds in
    let alone = c.alone.ensures.next terms pages c.args.tries command before now reply _ _ c.requires.tries
    (omega (arith, c.loop-n.invariant.standing.row_room)) c.loop-n.invariant.alone step c.owns_log.ensures refl stood
    c.in_ok-reply.ensures.standing.pages_are in
    record {
      run = subst (λ l. HasRun s (serial_handle c.args.worker.now.0) now.log l c.add.new.self) taken
          (subst (HasRun s (serial_handle c.args.worker.now.0) now.log _) added next);
      alone = subst (λ l. HasRunAlone s now l (replies_of c.add.new.self 0)) taken
          (subst (λ l. HasRunAlone s now (take c.loop-n.n c.args.script.now ++ command ∷ []) (replies_of l 0)) added
          (subst (HasRunAlone s now (take c.loop-n.n c.args.script.now ++ command ∷ []))
          (sym (added-first c.loop-n.replies reply)) alone));
      spare = omega (arith, spare, left, c.loop-n.invariant.spare);
      standing = c.in_ok-reply.ensures.standing;
    }

pub returns : goal.returns
returns g c =
    let s = setting_of (serial_terms g.S.Setup.base g.S.Setup.limits) (page_count c.args.base.now.row_room) in
    let script = c.args.script.now in
    let now = c.loop-n.worker in
    let all = take_all c.loop-n.n script (omega (arith, c.loop-n-test.false, c.len-n-end.ensures)) in
    record {
      run = subst (λ l. HasRun s (serial_handle c.args.worker.now.0) (serial_handle now.0) l c.loop-n.replies) all
          c.loop-n.invariant.run;
      alone = subst (λ l. HasRunAlone s (told_by serial_handle memory_store now) l (replies_of c.loop-n.replies 0)) all
          c.loop-n.invariant.alone;
    }
