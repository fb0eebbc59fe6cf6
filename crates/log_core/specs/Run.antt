-- Steps one after another, and those of one party alone.
use Rattle.std.specs.Prelude.{◌≡◌, ℕ, ◌<◌, ◌==◌, length, List, [], ◌∷◌, ◌++◌, map, true, slice_index, if◌then◌else◌}
use Rattle.cubit_base.specs.Delta.{IsLawful}
use Rattle.cubit_base.specs.History.{after}
use Rattle.cubit_base.specs.declared.delta.Delta.{Delta}
use Rattle.cubit_base.specs.declared.entry.Entry.{Entry}
use Rattle.log_core.specs.declared.step.Step.{Step}
use Rattle.log_core.specs.declared.step.Step.TheVariants.{Store, LoadTail, LoadLink, LoadPayload, SwapLink, SwapTail}
use Rattle.log_core.specs.declared.step.Seen.{Seen}
use Rattle.log_core.specs.declared.step.Seen.TheVariants.{Value, Swapped, Done}
use Rattle.cubit_base.specs.EntryWords.{entry_words}
use Rattle.log_core.specs.Terms.{share}
use Rattle.log_core.specs.Chain.{delta_count, entry_count}
use Rattle.log_core.specs.Core.{CoreValue, party as party_of}
use Rattle.log_core.specs.Steps.{IsNextNode, MayComeNext, TakesStep}
use Rattle.log_core.specs.Growing.{behind}

-- these steps of parties, each lawful after those before it, give these answers and leave this core
abbrev pub Runs : CoreValue → List (ℕ × Step) → List Seen → CoreValue → Type 0
Runs core [] [] next = next ≡ core
Runs core [] (seen ∷ answers) next = ⊥
Runs core (s ∷ steps) [] next = ⊥
Runs core (s ∷ steps) (seen ∷ answers) next =
    (middle : CoreValue) × TakesStep core s.0 s.1 seen middle × Runs middle steps answers next

-- the same for the steps of one party
abbrev pub RunsAlone : CoreValue → ℕ → List Step → List Seen → CoreValue → Type 0
RunsAlone core p steps answers next = Runs core (map (λ step. (p, step)) steps) answers next

-- some answers and some core are those of the party's steps
abbrev pub IsLawfulRun : CoreValue → ℕ → List Step → Type 0
IsLawfulRun core p steps = (answers : List Seen) × (next : CoreValue) × RunsAlone core p steps answers next

-- whatever answers the party's steps give, they leave this core
abbrev pub EndsIn : CoreValue → ℕ → List Step → CoreValue → Type 0
EndsIn core p steps end = (answers : List Seen) (next : CoreValue) → RunsAlone core p steps answers next → end ≡ next

-- a front: the tail, its link, and the counts of the last node, which is the tail where that has no link
abbrev pub TakesFront : CoreValue → ℕ → List Seen → CoreValue → Type 0
TakesFront core p answers next =
    (t m counts : ℕ) × (answers ≡ Value t ∷ Value m ∷ Value counts ∷ [])
    × RunsAlone core p (LoadTail ∷ LoadLink t ∷ LoadPayload (behind t m) 1 ∷ []) answers next

-- an entry in a node
abbrev pub stores : ℕ → Entry → List Step
stores node e =
    Store node 0 (slice_index (entry_words e) 0) ∷ Store node 1 (slice_index (entry_words e) 1)
    ∷ Store node 2 (slice_index (entry_words e) 2) ∷ Store node 3 (slice_index (entry_words e) 3) ∷ []

-- the tail, and its link
abbrev pub loads : ℕ → List Step
loads t = LoadTail ∷ LoadLink t ∷ []

-- where the tail has a link it is late, and is moved on
abbrev pub helps : ℕ → ℕ → List Step
helps t m = if m == 0 then [] else SwapTail t m ∷ []

abbrev pub helped : ℕ → List Seen
helped m = if m == 0 then [] else Swapped true ∷ []

-- a node behind the last one, and the tail moved to it
abbrev pub appends : ℕ → ℕ → List Step
appends last node = SwapLink last node ∷ SwapTail last node ∷ []

-- the party has a node left, the log has room, and the delta is the party's own and lawful next of all
pub record MayCommit (core : CoreValue) (p : ℕ) (d : Delta) : Type 0 where
  pub party : p < length core.parties
  pub node : (party_of core p).used < share core.terms p
  pub room : delta_count core.chain.history < core.terms.limits.log_limit
  pub author : d.author ≡ p
  pub lawful : IsLawful core.terms.limits.row_limit (after core.terms.base core.chain.history) d

-- an entry with this delta, in the party's next node: it is stored, a late tail is helped, and the node is appended
abbrev pub TakesCommit : CoreValue → ℕ → Delta → CoreValue → Type 0
TakesCommit core p d next =
    (node t m : ℕ) × (e : Entry) × IsNextNode core p node
    × MayComeNext core p (entry_count core.chain.history) e × (e.delta ≡ d)
    × RunsAlone core p (stores node e ++ loads t ++ helps t m ++ appends (behind t m) node)
    (Done ∷ Done ∷ Done ∷ Done ∷ Value t ∷ Value m ∷ helped m ++ Swapped true ∷ Swapped true ∷ []) next
