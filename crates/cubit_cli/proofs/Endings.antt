-- What an ending says of the status.
use Rattle.std.proofs.Common.{◌≡◌, ◌⊎◌, ◌↔◌, ◌∙◌, ℕ, List, Option, Some, None, Ok, Err, refl, sym, ap, subst, inl, inr}
use Rattle.std.specs.Result.{result_err}
use Rattle.cubit_base.specs.declared.table.TheConstants.{ROW_LIMIT}
use Rattle.cubit_io.specs.Count.{Rose}
use Rattle.cubit_io.specs.Held.{Held, IsMissing}
use Rattle.cubit_io.specs.Pieces.{GrewBy}
use Rattle.refresh_streams.specs.Reading.{Contents}
use Rattle.cubit_cli.specs.declared.halt.Halt.TheVariants as halt
use Rattle.cubit_cli.specs.declared.status.Status.TheVariants.{Done, Usage, FileFault, SinkFault, Memory}
use Rattle.cubit_cli.specs.Call.{Replies, Ends}
use Rattle.cubit_cli.specs.Halt.{name_of}
use Rattle.cubit_cli.specs.Reply.{IsReply, IsReplyWhereTold}
use Rattle.cubit_cli.specs.Status.{Ending, status_of, status_of_trouble}
use Rattle.cubit_cli.specs.Trouble.{Trouble, Missing, or_missing, or_trouble, first_trouble, script_at, trouble_of, Reads}
use Rattle.cubit_cli.specs.Words.{Asked, Query, Run, Drill, DrillValue}
use Rattle.cubit_cli.specs.World.{FilesState, SinkState}
use Rattle.cubit_cli.proofs.Missing.{Meets-missing}

-- words that are no command end in Usage, and no others do
pub Ends-usage : (asked : Option Asked) (files files' : FilesState) (out out' : SinkState) (ending : Ending)
    → Ends asked files files' out out' ending → (status_of ending ≡ Usage) ↔ (asked ≡ None)
Ends-usage None files files' out out' (Ok done) ends = absurd ends
Ends-usage None files files' out out' (Err halt.Usage) ends = (λ _. refl, λ _. refl)
Ends-usage None files files' out out' (Err (halt.FileFault name)) ends = absurd ends
Ends-usage None files files' out out' (Err (halt.Refused name refusal)) ends = absurd ends
Ends-usage None files files' out out' (Err halt.SinkFault) ends = absurd ends
Ends-usage None files files' out out' (Err halt.Memory) ends = absurd ends
Ends-usage (Some asked) files files' out out' (Ok done) ends = (λ is. cc, λ is. cc)
Ends-usage (Some asked) files files' out out' (Err halt.Usage) ends = absurd ends.0
Ends-usage (Some asked) files files' out out' (Err (halt.FileFault name)) ends = (λ is. cc, λ is. cc)
Ends-usage (Some asked) files files' out out' (Err (halt.Refused name refusal)) ends = (λ is. cc, λ is. cc)
Ends-usage (Some asked) files files' out out' (Err halt.SinkFault) ends = (λ is. cc, λ is. cc)
Ends-usage (Some asked) files files' out out' (Err halt.Memory) ends = (λ is. cc, λ is. cc)

-- a drill reads no file
pub Ends-drill : (drill : DrillValue) (files files' : FilesState) (out out' : SinkState) (ending : Ending)
    → Ends (Some (Drill drill)) files files' out out' ending
    → (status_of ending ≡ Done) ⊎ ((status_of ending ≡ SinkFault) ⊎ (status_of ending ≡ Memory))
Ends-drill drill files files' out out' (Ok done) ends = inl refl
Ends-drill drill files files' out out' (Err halt.Usage) ends = absurd ends.0
Ends-drill drill files files' out out' (Err (halt.FileFault name)) ends = absurd ends.0.1
Ends-drill drill files files' out out' (Err (halt.Refused name refusal)) ends = absurd ends.0.0
Ends-drill drill files files' out out' (Err halt.SinkFault) ends = inr (inl refl)
Ends-drill drill files files' out out' (Err halt.Memory) ends = inr (inr refl)

-- the output took what the command may write
pub Ends-took : (asked : Asked) (files files' : FilesState) (out out' : SinkState) (ending : Ending)
    → status_of ending ≡ Done → Ends (Some asked) files files' out out' ending
    → Replies asked files.held (GrewBy out.taken out'.taken)
Ends-took asked files files' out out' (Ok done) is ends = ends
Ends-took asked files files' out out' (Err halt.Usage) is ends = absurd ends.0
Ends-took asked files files' out out' (Err (halt.FileFault name)) is ends = cc
Ends-took asked files files' out out' (Err (halt.Refused name refusal)) is ends = cc
Ends-took asked files files' out out' (Err halt.SinkFault) is ends = cc
Ends-took asked files files' out out' (Err halt.Memory) is ends = cc

-- what a command may write, where it is told what the files hold
pub IsReply-told : (asked : Asked) (contents : Contents) (held : Held) (text : List ℕ) → held ≡ Some contents
    → IsReplyWhereTold asked held text → IsReply asked contents text
IsReply-told (Query q) contents held text told reply = reply contents told
IsReply-told (Run r) contents held text told reply = reply contents told
IsReply-told (Drill d) contents held text told reply = reply

-- a command that has a reply has no file in its way
IsReply-trouble : (asked : Asked) (contents : Contents) (text : List ℕ) → IsReply asked contents text
    → trouble_of asked contents ≡ None
IsReply-trouble (Query q) contents text reply = ap result_err reply.read
IsReply-trouble (Run r) contents text reply =
    ap (λ table. first_trouble table (script_at contents r.script)) reply.base ∙ ap result_err reply.script
IsReply-trouble (Drill d) contents text reply = refl

-- a file that is read and missing is in the way
Reads-missing : (asked : Asked) (contents : Contents) (name : List ℕ) → Reads asked contents name
    → contents name ≡ None → trouble_of asked contents ≡ Some (Missing name)
Reads-missing (Query q) contents name reads none =
    let gone : contents q.base ≡ None = ap contents (sym reads) ∙ none in
    ap (λ bytes. result_err (or_missing ROW_LIMIT q.base bytes)) gone ∙ ap (λ n. Some (Missing n)) (sym reads)
Reads-missing (Run r) contents name reads none = elim reads [
  | inl is_base ↦
      let gone : contents r.base ≡ None = ap contents (sym is_base) ∙ none in
      ap (λ bytes. first_trouble (or_missing r.limits.row_limit r.base bytes) (script_at contents r.script)) gone
      ∙ ap (λ n. Some (Missing n)) (sym is_base)
  | inr found ↦
      ap (λ table. first_trouble table (script_at contents r.script)) found.1
      ∙ ap (λ script. result_err (or_trouble script)) (Meets-missing contents r.script 4_194_304 name none found.2)
]
Reads-missing (Drill d) contents name reads none = absurd reads

module _ (asked : Asked) (contents : Contents) where
  -- a command that has a reply is done
  Replies-done : (held : Held) (P : List ℕ → Type 0) → held ≡ Some contents → Replies asked held P
      → trouble_of asked contents ≡ None
  Replies-done held P told replies =
      IsReply-trouble asked contents replies.0 (IsReply-told asked contents held replies.0 told replies.1)

  -- a command that a file is in the way of has no reply
  Replies-trouble : (held : Held) (trouble : Trouble) (P : List ℕ → Type 0)
      → held ≡ Some contents → trouble_of asked contents ≡ Some trouble → Replies asked held P → ⊥
  Replies-trouble held trouble P told in_way replies =
      let never : Some trouble ≡ None = sym in_way ∙ Replies-done held P told replies in cc

  -- a file that is missing where this is told
  IsMissing-none : (held : Held) (name : List ℕ) → held ≡ Some contents → IsMissing held name
      → contents name ≡ None
  IsMissing-none held name told missing = subst (λ h. IsMissing h name) told missing

  module _ (files files' : FilesState) (out out' : SinkState) (told : files.held ≡ Some contents) where
    -- where a file is in the way there is no answer
    pub Ends-trouble : (trouble : Trouble) (ending : Ending) → trouble_of asked contents ≡ Some trouble
        → Ends (Some asked) files files' out out' ending
        → (status_of ending ≡ status_of_trouble (Some trouble))
        ⊎ ((status_of ending ≡ FileFault) ⊎ (status_of ending ≡ Memory))
    Ends-trouble trouble (Ok done) in_way ends = absurd (Replies-trouble files.held trouble _ told in_way ends)
    Ends-trouble trouble (Err halt.Usage) in_way ends = absurd ends.0
    Ends-trouble trouble (Err (halt.FileFault name)) in_way ends = inr (inl refl)
    Ends-trouble trouble (Err (halt.Refused name refusal)) in_way ends =
        inl (ap status_of_trouble (sym (ends.0.1 contents told) ∙ in_way))
    Ends-trouble trouble (Err halt.SinkFault) in_way ends =
        absurd (Replies-trouble files.held trouble _ told in_way ends.1)
    Ends-trouble trouble (Err halt.Memory) in_way ends = inr (inr refl)

    -- where nothing failed, the files decide
    pub Ends-complete : (ending : Ending) → ¬ Rose files.faults files'.faults → ¬ Rose out.faults out'.faults
        → Ends (Some asked) files files' out out' ending
        → (status_of ending ≡ status_of_trouble (trouble_of asked contents)) ⊎ (status_of ending ≡ Memory)
    Ends-complete (Ok done) files_well out_well ends =
        inl (ap status_of_trouble (sym (Replies-done files.held _ told ends)))
    Ends-complete (Err halt.Usage) files_well out_well ends = absurd ends.0
    Ends-complete (Err (halt.FileFault name)) files_well out_well ends = elim ends.0.0 [
      | inl missing ↦
          let none = IsMissing-none files.held (name_of name) told missing in
          inl (ap status_of_trouble (sym (Reads-missing asked contents (name_of name) (ends.0.2 contents told) none)))
      | inr rose ↦ absurd (files_well rose)
    ]
    Ends-complete (Err (halt.Refused name refusal)) files_well out_well ends =
        inl (ap status_of_trouble (sym (ends.0.1 contents told)))
    Ends-complete (Err halt.SinkFault) files_well out_well ends = absurd (out_well ends.0)
    Ends-complete (Err halt.Memory) files_well out_well ends = inr refl
