-- Lists of replies, one a worker.
use Rattle.std.specs.Prelude.{ℕ, ◌-◌, ◌<◌, nat_lt, List, [], ◌∷◌, ◌++◌, length, slice_set, replicate, if◌then◌else◌}
use Rattle.std.specs.List.{slice_index_or}
use Rattle.query_report.specs.declared.reply.Reply.{Reply}

-- the replies of a worker: none past the end
abbrev pub replies_of : List (List Reply) → ℕ → List Reply
replies_of lists worker = slice_index_or lists worker []

-- the reply stands at the end of the worker's list, and lists that were missing before it are empty
abbrev pub added : List (List Reply) → ℕ → Reply → List (List Reply)
added lists worker reply =
    if nat_lt worker (length lists) then slice_set lists worker (replies_of lists worker ++ reply ∷ [])
    else lists ++ (replicate (worker - length lists) [] ++ (reply ∷ []) ∷ [])

-- the last list, where there is one, is not empty
abbrev pub EndsInReply : List (List Reply) → Type 0
EndsInReply lists = 0 < length lists → 0 < length (replies_of lists (length lists - 1))
