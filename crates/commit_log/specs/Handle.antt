-- A log as one of its callers sees it.
use Rattle.std.specs.Prelude.{◌≡◌, ℕ, ◌+◌, ◌-◌, ◌^◌, ◌≤◌, ◌<◌, ◌==◌, not, List, [], ◌∷◌, ◌++◌, length, map, filter, drop, min, Option, Some, None, Result, Ok, Err}
use Rattle.std.specs.List.{enumerate_from}
use Rattle.std.specs.Option.{option_map}
use Rattle.cubit_base.specs.declared.delta.Delta.{Delta}
use Rattle.cubit_base.specs.declared.entry.Entry.{Entry}
use Rattle.commit_log.specs.Log.{Terms, IsWhole, IsPlace, IsEntry}
use Rattle.commit_log.specs.declared.front.Front.{Front}
use Rattle.commit_log.specs.declared.front.Cursor.{Cursor}
use Rattle.commit_log.specs.declared.front.AppendStop.{AppendStop}
use Rattle.commit_log.specs.declared.front.AppendStop.TheVariants.{Full, Late}

-- what a handle tells: the deltas that it has seen, its author, how many more it may append, and, where told, how many
-- entries its walks gave and how many fronts it took
pub record Handle : Type 0 where
  pub seen : List Delta
  pub author : ℕ
  pub spare : ℕ
  pub walked : Option ℕ
  pub looks : Option ℕ

-- the places of an author's deltas, counted from 0
abbrev pub places_by : ℕ → List Delta → List ℕ
places_by author log = map (λ p. p.0) (filter (λ p. p.1.author == author) (enumerate_from 0 log))

-- those of the handle's own author
abbrev pub mine : Handle → List ℕ
mine handle = places_by handle.author handle.seen

-- a count that is kept in 64 bits, after one more: at its last value it stays
abbrev pub raised : ℕ → ℕ
raised count = min (count + 1) (2 ^ 64 - 1)

-- the handle after one more front that it took, and after one more entry that a walk gave
abbrev pub with_look : Handle → Handle
with_look handle = record handle { looks = option_map raised handle.looks }

abbrev pub with_walk : Handle → Handle
with_walk handle = record handle { walked = option_map raised handle.walked }

-- the handle after its own delta
abbrev pub with_delta : Handle → Delta → Handle
with_delta handle delta = record handle { seen = handle.seen ++ delta ∷ []; spare = handle.spare - 1 }

-- the log has the other one as a prefix
abbrev pub Begins : List Delta → List Delta → Type 0
Begins log longer = (rest : List Delta) × (longer ≡ log ++ rest)

-- the same caller, who has seen no less
pub record Grows (handle later : Handle) : Type 0 where
  pub begins : Begins handle.seen later.seen
  pub author : later.author ≡ handle.author

-- the same handle, but that more deltas of others may have been seen
pub record SeesMore (handle later : Handle) : Type 0 where
  pub is : later ≡ record handle { seen = later.seen }
  pub begins : Begins handle.seen later.seen
  pub mine : mine later ≡ mine handle

-- the same handle, but that more deltas of others may have been seen and walked over
pub record ReadsOn (handle later : Handle) : Type 0 where
  pub is : later ≡ record handle { seen = later.seen; walked = later.walked }
  pub begins : Begins handle.seen later.seen
  pub mine : mine later ≡ mine handle

-- how many deltas of other authors a handle has seen since
abbrev pub others : Handle → Handle → ℕ
others handle later = length (filter (λ d. not (d.author == handle.author)) (drop (length handle.seen) later.seen))

-- a walk goes on: it gives the entry at the cursor, which is moved on by one
pub record WalksOn (terms : Terms) (handle : Handle) (cursor : Cursor) (to : Front) (later : Handle) (next : Cursor)
    (entry : Entry) : Type 0 where
  pub before : cursor.len < to.len
  pub is_entry : IsEntry terms handle.seen cursor.len entry
  pub is_place : IsPlace terms handle.seen next
  pub moved : next.len ≡ cursor.len + 1
  pub walked : later ≡ with_walk handle

-- a step of a walk up to a front, at whose end nothing changes
abbrev pub Walks : Terms → Handle → Cursor → Front → Handle → Cursor → Option Entry → Type 0
Walks terms handle cursor to later next None = (cursor.len ≡ to.len) × (next ≡ cursor) × (later ≡ handle)
Walks terms handle cursor to later next (Some entry) = WalksOn terms handle cursor to later next entry

abbrev pub walk_steps : Option Entry → ℕ
walk_steps None = 0
walk_steps (Some entry) = 5

-- the delta was appended behind the front, which was that of all that was seen, as the new one is
pub record Appended (terms : Terms) (handle : Handle) (at : Front) (delta : Delta) (later : Handle) (front : Front)
    : Type 0 where
  pub room : at.len < terms.limits.log_limit
  pub last : at.len ≡ length handle.seen
  pub is : later ≡ with_delta handle delta
  pub mine : mine later ≡ mine handle ++ at.len ∷ []
  pub whole : IsWhole terms later.seen front

-- another delta stands behind the front; the new front is longer, and that of all that is seen
pub record IsLate (terms : Terms) (handle : Handle) (at : Front) (later : Handle) (front : Front) : Type 0 where
  pub room : at.len < terms.limits.log_limit
  pub longer : at.len < front.len
  pub more : SeesMore handle later
  pub whole : IsWhole terms later.seen front

-- what a try to append comes to; where the log is full nothing changes
abbrev pub Appends : Terms → Handle → Front → Delta → Handle → Result Front AppendStop → Type 0
Appends terms handle at delta later (Ok front) = Appended terms handle at delta later front
Appends terms handle at delta later (Err Full) = (at.len ≡ terms.limits.log_limit) × (later ≡ handle)
Appends terms handle at delta later (Err (Late front)) = IsLate terms handle at later front

-- the number of what stopped an append
abbrev pub stop_number : AppendStop → ℕ
stop_number Full = 1
stop_number (Late front) = 2

abbrev pub append_steps : Result Front AppendStop → ℕ
append_steps (Ok front) = 12
append_steps (Err Full) = 0
append_steps (Err (Late front)) = 12

-- a counter rose by at most so much
abbrev pub RisesWithin : ℕ → ℕ → ℕ → Type 0
RisesWithin most before now = (before ≤ now) × (now ≤ before + most)
