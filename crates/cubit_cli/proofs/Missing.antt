-- A file that reading meets and that is missing is what is in the way.
use Rattle.std.proofs.Common.{◌≡◌, ◌∙◌, ℕ, ◌+◌, nat_lt, Bool, true, false, if◌then◌else◌, List, [], ◌∷◌, ◌++◌, length, Option, Some, None, Result, Ok, Err, ap, subst}
use Rattle.cubit_base.specs.Key.{KeyValue}
use Rattle.cubit_base.specs.Tuple.{TupleValue}
use Rattle.cubit_io.specs.declared.whole.TheConstants.{FILE_LIMIT}
use Rattle.tbl_text.specs.declared.line.LineFault.{LineFault}
use Rattle.tbl_text.specs.DeleteFile.{order_of_line}
use Rattle.tbl_text.specs.Line.{line_value}
use Rattle.tbl_text.specs.Lines.{lines_of}
use Rattle.refresh_streams.specs.Reading.{Contents, Trouble, Missing, Bad, Step, Opens, Asks, Stops, line_steps, steps_of_bytes, steps_of_file, row_step, insert_says, order_step, delete_says, request_steps, script_says, script_steps, Progress, start, after_step, after_steps, ◌>>=◌, commands_of, script_value, Meets}
use Rattle.refresh_streams.specs.ScriptLine.{Request, Nothing, One, Inserts, Deletes, line_asks}

-- a file that is opened and missing is in the way at once
abbrev pub Halts : Contents → List Step → Type 0
Halts contents [] = Unit {0}
Halts contents (Opens file ∷ steps) =
    (contents file ≡ None → (rest : List Step) × (steps ≡ Stops (Missing file) ∷ rest)) × Halts contents steps
Halts contents (Asks file n command ∷ steps) = Halts contents steps
Halts contents (Stops trouble ∷ steps) = Halts contents steps

module _ (contents : Contents) where
  Halts-append : (xs ys : List Step) → Halts contents xs → Halts contents ys → Halts contents (xs ++ ys)
  Halts-append [] ys first next = next
  Halts-append (Opens file ∷ xs) ys first next = (
    (λ none. let found = first.0 none in (found.0 ++ ys, ap (λ l. l ++ ys) found.1)),
    Halts-append xs ys first.1 next,
  )
  Halts-append (Asks file n command ∷ xs) ys first next = Halts-append xs ys first next
  Halts-append (Stops trouble ∷ xs) ys first next = Halts-append xs ys first next

  Halts-lines : (says : ℕ → List ℕ → List Step) → ((n : ℕ) (line : List ℕ) → Halts contents (says n line))
      → (n : ℕ) (lines : List (List ℕ)) → Halts contents (line_steps says n lines)
  Halts-lines says each n [] = tt
  Halts-lines says each n (line ∷ lines) =
      Halts-append (says n line) (line_steps says (n + 1) lines) (each n line) (Halts-lines says each (n + 1) lines)

  Halts-long : (name : List ℕ) (steps : List Step) (long : Bool) → Halts contents steps
      → Halts contents (if long then Stops (Bad name 0 16 0) ∷ [] else steps)
  Halts-long name steps true halts = tt
  Halts-long name steps false halts = halts

  Halts-bytes : (name : List ℕ) (says : ℕ → List ℕ → List Step)
      → ((n : ℕ) (line : List ℕ) → Halts contents (says n line))
      → (bytes : Option (List ℕ)) → Halts contents (steps_of_bytes name says bytes)
  Halts-bytes name says each None = tt
  Halts-bytes name says each (Some bytes) =
      Halts-long name (line_steps says 1 (lines_of bytes)) (nat_lt FILE_LIMIT (length bytes))
      (Halts-lines says each 1 (lines_of bytes))

  Halts-file : (name : List ℕ) (says : ℕ → List ℕ → List Step)
      → ((n : ℕ) (line : List ℕ) → Halts contents (says n line))
      → Halts contents (steps_of_file contents name says)
  Halts-file name says each =
      ((λ none. ([], ap (steps_of_bytes name says) none)), Halts-bytes name says each (contents name))

  Halts-row : (name : List ℕ) (n : ℕ) (row : Result (KeyValue × TupleValue) LineFault)
      → Halts contents (row_step name n row ∷ [])
  Halts-row name n (Ok row) = tt
  Halts-row name n (Err fault) = tt

  Halts-order : (name : List ℕ) (n : ℕ) (order : Option ℕ) → Halts contents (order_step name n order ∷ [])
  Halts-order name n (Some order) = tt
  Halts-order name n None = tt

  Halts-request : (name : List ℕ) (n : ℕ) (request : Result Request ℕ)
      → Halts contents (request_steps contents name n request)
  Halts-request name n (Err fault) = tt
  Halts-request name n (Ok Nothing) = tt
  Halts-request name n (Ok (One command)) = tt
  Halts-request name n (Ok (Inserts file)) =
      Halts-file file (insert_says file) (λ n line. Halts-row file n (line_value line))
  Halts-request name n (Ok (Deletes file)) =
      Halts-file file (delete_says file) (λ n line. Halts-order file n (order_of_line line))

  Halts-script : (name : List ℕ) → Halts contents (script_steps contents name)
  Halts-script name =
      Halts-file name (script_says contents name) (λ n line. Halts-request name n (line_asks line))

  Halts-behind : (made behind : List Step) (file : List ℕ) → Halts contents (made ++ (Opens file ∷ behind))
      → contents file ≡ None → (rest : List Step) × (behind ≡ Stops (Missing file) ∷ rest)
  Halts-behind [] behind file halts none = halts.0 none
  Halts-behind (Opens other ∷ made) behind file halts none = Halts-behind made behind file halts.1 none
  Halts-behind (Asks other n command ∷ made) behind file halts none = Halts-behind made behind file halts none
  Halts-behind (Stops trouble ∷ made) behind file halts none = Halts-behind made behind file halts none

-- steps that were made, and then others
after_steps-append : (made rest : List Step) (p now : Progress) → after_steps made p ≡ Ok now
    → after_steps (made ++ rest) p ≡ after_steps rest now
after_steps-append [] rest p now reached = ap (λ r. r >>= after_steps rest) reached
after_steps-append (step ∷ made) rest p now reached =
    (elim (after_step step p) as (λ (r : Result Progress Trouble). ((r >>= after_steps made) ≡ Ok now)
    → (r >>= after_steps (made ++ rest)) ≡ after_steps rest now) [
      | Ok next ↦ λ is. after_steps-append made rest next now is
      | Err trouble ↦ λ is. cc
    ]) reached

pub Meets-missing : (contents : Contents) (script : List ℕ) (room : ℕ) (file : List ℕ) → contents file ≡ None
    → Meets (script_steps contents script) (start room) file
    → script_value contents script room ≡ Err (Missing file)
Meets-missing contents script room file none meets =
    let cut = meets.reached.cut in
    let halts = subst (Halts contents) cut (Halts-script contents script) in
    let found = Halts-behind contents meets.reached.made meets.behind file halts none in
    let steps = cut ∙ ap (λ behind. meets.reached.made ++ (Opens file ∷ behind)) found.1 in
    let goes = after_steps-append meets.reached.made (Opens file ∷ Stops (Missing file) ∷ found.0) (start room)
    meets.now meets.reached.progress in
    ap commands_of (ap (λ s. after_steps s (start room)) steps ∙ goes)
