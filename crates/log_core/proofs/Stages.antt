-- A commit that one party makes alone, stage by stage.
use Rattle.std.proofs.Common.{◌≡◌, ℕ, ◌+◌, ◌<◌, true, List, [], ◌∷◌, ◌++◌, length, sym, refl, ap, ◌∙◌, subst, arith, length-set}
use Rattle.cubit_base.specs.declared.delta.Delta.{Delta}
use Rattle.cubit_base.specs.declared.entry.Entry.{Entry}
use Rattle.log_core.specs.declared.party.Party.{Party}
use Rattle.log_core.specs.declared.step.Seen.{Seen}
use Rattle.log_core.specs.declared.step.Seen.TheVariants.{Value, Swapped, Done}
use Rattle.cubit_base.specs.EntryWords.{FitsWords}
use Rattle.log_core.specs.Chain.{tail, link, node_at, end_at}
use Rattle.log_core.specs.Core.{CoreValue, party, IsSound}
use Rattle.log_core.specs.Steps.{IsNextNode, MayComeNext, sees, tail_loaded}
use Rattle.log_core.specs.Growing.{behind}
use Rattle.log_core.specs.Run.{RunsAlone, stores, loads, helps, helped, appends}
use Rattle.log_core.proofs.Runs.{runs-join, runs-sound}
use Rattle.log_core.proofs.Grown.{last-by-tail}
use Rattle.log_core.proofs.Alone.{after_tail, after_link, link-seen, link-reached, runs-loads}
use Rattle.log_core.proofs.Stored.{IsReady, same-ready, stored, runs-stores, stored-ready, has-entry, stored-tail, stored-link}
use Rattle.log_core.proofs.Commits.{CanAppend, runs-help, appended, runs-appends, appended-tail}

abbrev pub stored_answers : List Seen
stored_answers = Done ∷ Done ∷ Done ∷ Done ∷ []

abbrev pub loaded_answers : ℕ → ℕ → List Seen
loaded_answers t m = Value t ∷ Value m ∷ []

abbrev pub appended_answers : List Seen
appended_answers = Swapped true ∷ Swapped true ∷ []

pub record Stages (c : CoreValue) (p n t m last : ℕ) (e : Entry) : Type 0 where
  pub one : CoreValue
  pub two : CoreValue
  pub three : CoreValue
  pub four : CoreValue
  pub to_one : RunsAlone c p (stores n e) stored_answers one
  pub to_two : RunsAlone one p (loads t) (loaded_answers t m) two
  pub to_three : RunsAlone two p (helps t m) (helped m) three
  pub to_four : RunsAlone three p (appends last n) appended_answers four
  pub whole : RunsAlone c p (stores n e ++ loads t ++ helps t m ++ appends (behind t m) n)
      (stored_answers ++ loaded_answers t m ++ helped m ++ appended_answers) four
  pub history : four.chain.history ≡ c.chain.history ++ e.delta ∷ []
  pub nodes : four.chain.nodes ≡ c.chain.nodes ++ n ∷ []
  pub ends : tail four.words ≡ n

module _ (c : CoreValue) (s : IsSound c) (p n t m last : ℕ) (inp : p < length c.parties) (e : Entry)
    (fits : FitsWords e) (ready : IsReady c p n e) (tail_is : tail c.words ≡ t) (link_is : link c.words t ≡ m)
    (last_is : last ≡ node_at c.chain (length c.chain.history)) where
  abbrev first : CoreValue
  first = stored c s p n inp e fits ready

  sound-first : IsSound first
  sound-first = runs-sound p c first (stores n e) stored_answers s (runs-stores c s p n inp e fits ready)

  first-tail : tail first.words ≡ t
  first-tail = stored-tail c s p n inp e fits ready ∙ tail_is

  first-link : link first.words t ≡ m
  first-link = stored-link c s p n inp e fits ready t ∙ link_is

  abbrev second : CoreValue
  second = after_link first sound-first p inp

  second-runs : RunsAlone first p (loads t) (loaded_answers t m) second
  second-runs = runs-loads first sound-first p inp t m first-tail first-link

  sound-second : IsSound second
  sound-second = runs-sound p first second (loads t) (loaded_answers t m) sound-first second-runs

  abbrev between : CoreValue
  between = after_tail first sound-first p inp

  inp-between : p < length between.parties
  inp-between = omega (arith, inp, length-set first.parties p (tail_loaded first (party first p)))

  abbrev seer : Party
  seer = sees (party between p) (end_at first.chain.history (first.chain.tail_place + 1))

  inp-second : p < length second.parties
  inp-second = omega (arith, inp-between, length-set between.parties p seer)

  ready-second : IsReady second p n e
  ready-second =
      same-ready between p n e first.words first.chain.tail_place first.noted seer inp-between refl
      (same-ready first p n e first.words first.chain.tail_place first.noted (tail_loaded first (party first p)) inp
      refl (stored-ready c s p n inp e fits ready))

  help-result : (z : CoreValue) × RunsAlone second p (helps t m) (helped m) z × CanAppend second z p n e
  help-result =
      runs-help second sound-second p n t inp-second e ready-second (has-entry c s p n inp e fits ready) first-tail
      (omega (arith, link-seen first sound-first p inp)) (link-reached first sound-first p inp) m first-link

  abbrev third : CoreValue
  third = help-result.0

  sound-third : IsSound third
  sound-third = runs-sound p second third (helps t m) (helped m) sound-second help-result.1

  can : CanAppend second third p n e
  can = help-result.2

  abbrev fourth : CoreValue
  fourth = appended third sound-third p n can.inp e can.ready can.has can.seen can.reached

  last-third : node_at third.chain (length third.chain.history) ≡ last
  last-third =
      (λ i. node_at (record third.chain { nodes = can.nodes i }) (length (can.history i))) ∙ sym last_is

  fourth-runs : RunsAlone third p (appends last n) appended_answers fourth
  fourth-runs = subst (λ x. RunsAlone third p (appends x n) appended_answers fourth) last-third
      (runs-appends third sound-third p n can.inp e can.ready can.has can.seen can.reached)

  last-behind : last ≡ behind t m
  last-behind =
      last_is ∙ sym (last-by-tail c s) ∙ ap (λ x. behind x (link c.words x)) tail_is ∙ ap (behind t) link_is

  runs-commit : RunsAlone c p (stores n e ++ loads t ++ helps t m ++ appends (behind t m) n)
      (stored_answers ++ loaded_answers t m ++ helped m ++ appended_answers) fourth
  runs-commit = subst
      (λ x. RunsAlone c p (stores n e ++ loads t ++ helps t m ++ appends x n)
      (stored_answers ++ loaded_answers t m ++ helped m ++ appended_answers) fourth)
      last-behind
      (runs-join p c first fourth (stores n e) (loads t ++ helps t m ++ appends last n) stored_answers
      (loaded_answers t m ++ helped m ++ appended_answers) (runs-stores c s p n inp e fits ready)
      (runs-join p first second fourth (loads t) (helps t m ++ appends last n) (loaded_answers t m)
      (helped m ++ appended_answers) second-runs
      (runs-join p second third fourth (helps t m) (appends last n) (helped m) appended_answers help-result.1
      fourth-runs)))

  pub stages : Stages c p n t m last e
  stages = record {
    one = first;
    two = second;
    three = third;
    four = fourth;
    to_one = runs-stores c s p n inp e fits ready;
    to_two = second-runs;
    to_three = help-result.1;
    to_four = fourth-runs;
    whole = runs-commit;
    history = ap (λ (x : List Delta). x ++ e.delta ∷ []) can.history;
    nodes = ap (λ (x : List ℕ). x ++ n ∷ []) can.nodes;
    ends = appended-tail third sound-third p n can.inp e can.ready can.has can.seen can.reached;
  }

-- the same for numbers that were read
pub plan : (c : CoreValue) (p n t m last : ℕ) (e : Entry) → IsSound c → p < length c.parties → IsNextNode c p n →
    FitsWords e → length c.chain.history < c.terms.limits.log_limit → MayComeNext c p (length c.chain.history) e →
    t ≡ tail c.words → m ≡ link c.words (tail c.words) → last ≡ node_at c.chain (length c.chain.history) →
    Stages c p n t m last e
plan c p n t m last e s inp next fits room may tail_is link_is last_is =
    stages c s p n t m last inp e fits (record { next = next; room = room; may = may }) (sym tail_is)
    (ap (link c.words) tail_is ∙ sym link_is) last_is
