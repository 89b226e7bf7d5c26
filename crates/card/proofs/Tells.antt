-- What a verdict tells of the image it was given on: enough for its effect to be made, and to leave the image
-- sound.
use mathlib.Core.Path.{◌≡◌, refl}
use mathlib.Core.Bool.{Bool, true, false, cond, ◌&&◌}
use mathlib.Core.List.{List}
use Prim.Native.Nat.{ℕ, ◌+◌, ◌*◌, ◌-◌, ◌<◌, ◌≤◌}
use native.Mathlib.Omega.{arith}
use lib.Dec.{eqb}
use lib.ListN.{length, length-drop}
use Rattle.std.specs.Prelude.{Ok, Err}
use Rattle.template.specs.Objects.{bytes_at}
use Rattle.rules.specs.Life.{known_life}
use Rattle.rules.specs.Descriptor.{ef}
use Rattle.image.specs.declared.Head.{Head}
use Rattle.image.specs.Layout.{has_bodies, version_of, count_of, current_ef_of, none, rec_at}
use Rattle.pool.specs.Bodies.{start_at, body_at}
use Rattle.pool.specs.Laid.{Laid}
use Rattle.sound.specs.Table.{view_at}
use Rattle.sound.specs.Sound.{Sound, Current}
use Rattle.sound.specs.Effects.{new_body, Creates, Deletes}
use Rattle.sound.proofs.Started.{bodied, has-bodies}
use Rattle.sound.proofs.Front.{sound-select}
use Rattle.sound.proofs.Fitting.{body-fits}
use Rattle.sound.proofs.Made.{sound-made}
use Rattle.sound.proofs.Deleted.{sound-deleted}
use Rattle.sound.proofs.Lived.{sound_lived}
use Rattle.kinship.specs.Climb.{Stands}
use Rattle.kinship.proofs.Sound.{rooted, housed}
use Rattle.verdict.specs.declared.Effect.TheVariants.{Select, Create, Delete, SetLife, Read, Update}
use Rattle.verdict.specs.Applied.{Verdict, sent_data, applied_of}
use Rattle.apdu.specs.Apdu.{instruction, is_binary, parameters, record_number, asked}
use Rattle.effect.specs.Fit.{FileSent, Roomy, Fit, Applies}
use Rattle.card.specs.Touching.{place_of}
use Rattle.card.specs.Command.{PoolFits}

-- where in the body it begins, by the parameters: a start, or a record number
pub binary-place : (c : List ℕ) → is_binary (instruction c) ≡ true → parameters c ≡ place_of c
unfolding place_of
binary-place c q = rw q

pub record_place : (c : List ℕ) (len : ℕ) → is_binary (instruction c) ≡ false → asked c ≡ len → (record_number c - 1) * len ≡ place_of c
unfolding place_of
record_place c len q e = rw (q, e)

-- a command on a body: n bytes of the pool from `at` on are bytes of the body of the current EF, from where the command begins in it
pub record Touches (img c : List ℕ) (at n : ℕ) : Type 0 where
  pub some : current_ef_of img ≡ none → ⊥
  pub here : at ≡ start_at img (current_ef_of img) + place_of c
  pub within : place_of c + n ≤ body_at img (current_ef_of img)
  pub body : 0 < body_at img (current_ef_of img)

abbrev pub Tells : List ℕ → List ℕ → Verdict → Type 0
Tells img c (Err w) = Unit {0}
Tells img c (Ok (Select d e w)) = Current (count_of img) (view_at img) d e
Tells img c (Ok (Create x)) =
    FileSent (version_of img) (count_of img) c x × Creates img x.slot x.head (bytes_at (sent_data c) x.name)
    (bytes_at (sent_data c) x.rule)
Tells img c (Ok (Delete s)) = Deletes img s
Tells img c (Ok (SetLife s life)) = Stands img (count_of img) s × (known_life life ≡ true)
Tells img c (Ok (Read at n)) = Touches img c at n × (n ≡ asked c)
Tells img c (Ok (Update at)) = (5 ≤ length c) × Touches img c at (length (sent_data c))

-- a new file with a body is on a card that has bodies
pub new_bodies : (v : ℕ) (h : Head) → 0 < new_body v h → has_bodies v ≡ true
unfolding new_body
new_bodies v h x = go (has_bodies v) (eqb h.kind ef) x
  where
    go : (a b : Bool) → 0 < cond (a && b) h.size 0 → a ≡ true
    go true b y = refl
    go false b y = absurd (omega arith)

-- bodies lie in the pool that the call was given, if it is the card's
module _ (img pool : List ℕ) (sound : Sound img) (k : PoolFits img pool) where
  pub some-bodies : (s : ℕ) → 0 < body_at img s → has_bodies (version_of img) ≡ true
  unfolding body_at
  some-bodies s x = has-bodies (version_of img) (rec_at img s) (bodied (version_of img) (rec_at img s) x)

  pub lies : Laid (count_of img) (start_at img) (body_at img) (length pool)
  lies = record {
    inside = λ t l x. rw (k (some-bodies t x)) (sound.bodies.inside t l x);
    apart = λ s t i j x y. sound.bodies.apart s t i j x y;
  }

  pub touched : (c : List ℕ) (at n : ℕ) → Touches img c at n → at + n ≤ length pool
  touched c at n t =
      omega (arith, t.here, t.within, lies.inside (current_ef_of img) (sound.current.ef-low t.some) t.body)

  -- the effect can be made
  roomy : (s : ℕ) (h : Head) (name rule : List ℕ) → Creates img s h name rule → Roomy img pool h
  roomy s h name rule c = record {
    long = λ x. k (new_bodies (version_of img) h x);
    short = λ x. omega (arith, k (new_bodies (version_of img) h x), sound.kin.root-size, sound.header.most);
    room = λ x. rw (k (new_bodies (version_of img) h x)) (body-fits img s h name rule sound c);
  }

  fit : (c : List ℕ) (v : Verdict) → Tells img c v → Fit img pool (count_of img) c v
  fit c (Err w) t = tt
  fit c (Ok (Select d e w)) t = tt
  fit c (Ok (Create x)) t = (t.0, roomy x.slot x.head _ _ t.1)
  fit c (Ok (Delete s)) t = t.low
  fit c (Ok (SetLife s life)) t = t.0.low
  fit c (Ok (Read at n)) t = tt
  fit c (Ok (Update at)) t = (t.0, omega (arith, touched c at (length (sent_data c)) t.1, length-drop 5 c))

  pub applies : (c : List ℕ) (v : Verdict) → Tells img c v → Applies img (count_of img) pool c v
  applies c v t = record { rooted = rooted img sound; housed = housed img sound; count = refl; laid = lies; fit = fit c v t }

-- and leaves a sound image
pub sound_applied : (img c : List ℕ) (v : Verdict) → Sound img → Tells img c v → Sound (applied_of img c v)
sound_applied img c (Err w) sound t = sound
sound_applied img c (Ok (Select d e w)) sound t = sound-select img d e sound t
sound_applied img c (Ok (Create x)) sound t = sound-made img x.slot x.head _ _ sound t.1
sound_applied img c (Ok (Delete s)) sound t = sound-deleted img s sound t
sound_applied img c (Ok (SetLife s life)) sound t = sound_lived img s life sound t.0.low t.0.used t.1
sound_applied img c (Ok (Read at n)) sound t = sound
sound_applied img c (Ok (Update at)) sound t = sound
