-- What drawing names asks of memory, and what it leaves there: the map at the end of memory grows down by an entry for each name drawn.
-- Assumes nothing.
use Rattle.std.specs.Prelude.{◌∷◌, ◌++◌, ◌≡◌, ℕ, ◌+◌, ◌*◌, ◌^◌, ◌-◌, ◌≤◌, ◌<◌, length, take, drop}
use Rattle.names.specs.Maps.{NameMap}
use Rattle.names.specs.Names.{Bytes, name_width, name_limit, name_field}
use Rattle.names.specs.declared.Refusal.{Refusal}
use Rattle.names.specs.Segments.{At, SameOutside}
use Rattle.records.specs.StepAnswer.{gives, refuses}
use Rattle.records.specs.Records.{head_width, Loc, Sexp, SA, sexp_bytes}
use Rattle.records.specs.Valid.{SexpFields, cons_depth}
use Rattle.walk.specs.Arena.{MapAt, outcome}
use Rattle.walk.specs.Invent.{name_too_long, draw, invent_new_names_sexp}
use Rattle.walk.specs.Steps.{Out}
use Rattle.walk.specs.declared.Growth.{Growth}
use Rattle.std.specs.declared.result.Result.{Result}
use Rattle.std.specs.declared.result.Result.TheVariants.{Ok, Err}

-- a map grows by at most so many bytes for each byte of the records that it is drawn from
abbrev pub map_growth : ℕ
map_growth = 3

-- a counter below this has at most 16 digits, which keeps an entry within that growth even where the name is empty
abbrev pub counter_limit : ℕ
counter_limit = 10 ^ 16

-- the bytes of an SA whose name has k bytes
abbrev pub atom_size : ℕ → ℕ
atom_size k = head_width + name_width + k

-- an S record stands at a place, and below a map of len bytes it leaves room for all that it can draw from the counter c on
pub record Roomy (t : Sexp) (mem : Bytes) (at len c : ℕ) : Type 0 where
  pub fields : SexpFields t
  pub there : At mem at (sexp_bytes t)
  pub fits : at + length (sexp_bytes t) + map_growth * length (sexp_bytes t) + len ≤ length mem
  pub counts : c + length (sexp_bytes t) < counter_limit

-- what Invent asks: a record with its room, of at most this depth, and a map at the end of memory
pub record Drawable (mem : Bytes) (len c depth : ℕ) : Type 0 where
  pub t : Sexp
  pub room : Roomy t mem 0 len c
  pub deep : cons_depth t ≤ depth
  pub m : NameMap
  pub map_at : MapAt mem len m

-- the map's length, the counter and the place of the next record
abbrev pub growth : ℕ → ℕ → ℕ → Growth
growth k c e = record { len = k; counter = c; end = e }

-- the map has grown: nothing below it has changed, and nothing of the map as it was; the next record is not past memory
pub record Grew (old new : Bytes) (len : ℕ) (g : Growth) : Type 0 where
  pub longer : len ≤ g.len
  pub within : g.end ≤ length old
  pub frame : SameOutside old new (length old - g.len) (length old - len)

-- what an answer leaves in memory: the map that has grown; or at a refusal the map as it was, and all but `spare` bytes right below it as they were
abbrev pub Grown : Bytes → Bytes → ℕ → ℕ → Result Growth Refusal → Type 0
Grown old new len spare (Ok g) = Grew old new len g
Grown old new len spare (Err r) = SameOutside old new (length old - (len + spare)) (length old - len)

-- a record of `size` bytes drew no more than its room: the value that the run o gives from any sum, the map that f says it leaves, and the next record at e
pub record Drew {A : Type 0} (o : ℕ → Out A) (f : A → NameMap) (mem : Bytes) (len c size e : ℕ) (g : Growth) : Type 0 where
  pub value : A
  pub runs : (x : ℕ) → outcome (o x) ≡ gives value g.counter
  pub map_at : MapAt mem g.len (f value)
  pub next : g.end ≡ e
  pub at_most : g.len ≤ len + map_growth * size
  pub counted : g.counter ≤ c + size

-- a made name is too long
pub record TooLong {A : Type 0} (o : ℕ → Out A) (r : Refusal) : Type 0 where
  pub runs : (x : ℕ) → outcome (o x) ≡ refuses name_too_long
  pub is : r ≡ name_too_long

-- r is the answer
abbrev pub Draws : {A : Type 0} → (ℕ → Out A) → (A → NameMap) → Bytes → ℕ → ℕ → ℕ → ℕ → Result Growth Refusal → Type 0
Draws o f mem len c size e (Ok g) = Drew o f mem len c size e g
Draws o f mem len c size e (Err r) = TooLong o r

-- a name stands from start to end
pub record NameFrom (mem : Bytes) (start end : ℕ) (n : Bytes) : Type 0 where
  pub there : At mem start n
  pub ends : end ≡ start + length n

-- and below a map of len bytes it leaves room for its entry
pub record NameRoom (mem : Bytes) (start end len c : ℕ) : Type 0 where
  pub forward : start ≤ end
  pub short : end - start ≤ name_limit
  pub fits : end + map_growth * atom_size (end - start) + len ≤ length mem
  pub counts : c + 1 < counter_limit

-- the bytes from start to end
abbrev pub between : Bytes → ℕ → ℕ → Bytes
between mem start end = take (end - start) (drop start mem)

-- an entry of a map
abbrev pub entry : Bytes → Bytes → Bytes
entry a b = name_field a ++ name_field b

-- the entry of the name from start to end and a new one is to be written behind it
pub record EntryRoom (mem : Bytes) (at start end : ℕ) (new : Bytes) : Type 0 where
  pub forward : start ≤ end
  pub behind : end ≤ at
  pub short : end - start ≤ name_limit
  pub new_short : length new ≤ name_limit
  pub fits : at + length (entry (between mem start end) new) ≤ length mem

-- a name that is drawn for, and its entry
abbrev pub Pushes : Bytes → Bytes → ℕ → ℕ → ℕ → ℕ → Result Growth Refusal → Type 0
Pushes old new start end len c r =
    (n : Bytes) → NameFrom old start end n → (m : NameMap) → MapAt old len m → Draws (draw n c) (λ n'. (n, n') ∷ m) new len c (atom_size (length n)) end r

-- an SA of that name
abbrev pub InventsAtom : Bytes → Bytes → ℕ → ℕ → ℕ → ℕ → Result Growth Refusal → Type 0
InventsAtom old new start end len c r =
    (l : Loc) (n : Bytes) → NameFrom old start end n → (m : NameMap) → MapAt old len m
    → Draws (invent_new_names_sexp m (SA l n) c) (λ m'. m') new len c (atom_size (length n)) end r

-- an S record of this size: what is left in memory, and the answer
pub record InventsFrom (old new : Bytes) (at len c : ℕ) (t : Sexp) (m : NameMap) (r : Result Growth Refusal) : Type 0 where
  pub grown : Grown old new len (map_growth * length (sexp_bytes t)) r
  pub draws : Draws (invent_new_names_sexp m t c) (λ m'. m') new len c (length (sexp_bytes t)) (at + length (sexp_bytes t)) r

abbrev pub InventsSexp : Bytes → Bytes → ℕ → ℕ → ℕ → Result Growth Refusal → Type 0
InventsSexp old new at len c r = (t : Sexp) → Roomy t old at len c → (m : NameMap) → MapAt old len m → InventsFrom old new at len c t m r
