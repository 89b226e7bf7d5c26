-- What the effect of a verdict needs: the numbers that the verdict carries stand within the image, the pool and the
-- command. A sound image and its judging give all of it.
use Rattle.std.specs.Prelude.{◌≡◌, List, ℕ, ◌+◌, ◌-◌, ◌<◌, ◌≤◌, length, Ok, Err}
use Rattle.image.specs.Layout.{longest_rule, version_of, count_of}
use Rattle.laws.specs.Walks.{sum_below}
use Rattle.image.specs.declared.Head.{Head}
use Rattle.pool.specs.Bodies.{start_at, body_at}
use Rattle.pool.specs.Laid.{Laid}
use Rattle.sound.specs.Sound.{pool_length}
use Rattle.sound.specs.Effects.{new_body}
use Rattle.kinship.specs.Climb.{Rooted, Housed}
use Rattle.template.specs.declared.Span.{Span}
use Rattle.verdict.specs.declared.NewRecord.{NewRecord}
use Rattle.verdict.specs.Applied.{Verdict}
use Rattle.verdict.specs.declared.Effect.TheVariants.{Select, Create, Delete, SetLife, Read, Update}

-- a stretch of CREATE's data, which follow five bytes, that a field of `most` bytes can hold
pub record FieldSent (most : ℕ) (c : List ℕ) (p : Span) : Type 0 where
  pub order : p.start ≤ p.end
  pub inside : 5 + p.end ≤ length c
  pub short : p.end - p.start ≤ most

-- CREATE: the slot, the name and the rule of the new record, on a card of a version
pub record FileSent (v n : ℕ) (c : List ℕ) (x : NewRecord) : Type 0 where
  pub low : x.slot < n
  pub name : FieldSent 16 c x.name
  pub rule : FieldSent (longest_rule v) c x.rule

-- a new file that has a body: the pool has the image's length, and room for it beside all other bodies
pub record Roomy (img pool : List ℕ) (h : Head) : Type 0 where
  pub long : 0 < new_body (version_of img) h → length pool ≡ pool_length img
  pub short : 0 < new_body (version_of img) h → length pool < 65536
  pub room : 0 < new_body (version_of img) h → sum_below (count_of img) (body_at img) + new_body (version_of img) h ≤ length pool

-- by the verdict on the command c; a refusal, SELECT and READ need nothing
abbrev pub Fit : List ℕ → List ℕ → ℕ → List ℕ → Verdict → Type 0
Fit img pool n c (Err word) = Unit {0}
Fit img pool n c (Ok (Select d e word)) = Unit {0}
Fit img pool n c (Ok (Create x)) = FileSent (version_of img) n c x × Roomy img pool x.head
Fit img pool n c (Ok (Delete s)) = s < n
Fit img pool n c (Ok (SetLife s life)) = s < n
Fit img pool n c (Ok (Read at m)) = Unit {0}
Fit img pool n c (Ok (Update at)) = (5 ≤ length c) × (at + (length c - 5) ≤ length pool)

-- the verdict v on the command c can be applied to the image of n slots and its pool
pub record Applies (img : List ℕ) (n : ℕ) (pool c : List ℕ) (v : Verdict) : Type 0 where
  pub rooted : Rooted img n
  pub housed : Housed img n
  pub count : n ≡ count_of img
  -- bodies lie in the pool, apart
  pub laid : Laid n (start_at img) (body_at img) (length pool)
  pub fit : Fit img pool n c v
