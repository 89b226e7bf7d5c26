-- Demand 3 holds of every history: ledger and records agree on a fresh card, and after each call; what they agree on
-- is all that the demand says.
use mathlib.Core.Path.{◌≡◌, refl, sym, ap, subst, ◌∙◌}
use mathlib.Core.Bool.{Bool, true, false, cond}
use mathlib.Core.List.{List, [], ◌∷◌}
use mathlib.Core.Logic.{◌↔◌, ⊎_elim}
use Prim.Native.Nat.{ℕ, ◌+◌, ◌<◌, ◌≤◌}
use native.Mathlib.Omega.{arith}
use lib.Dec.{leb}
use borrow.Author.Tests.{leb-true, leb-false, le-leb, lt-leb}
use Rattle.std.specs.Prelude.{Ok}
use Rattle.laws.proofs.Sums.{sum-none}
use Rattle.laws.proofs.Says.{same_or, untrue}
use Rattle.image.specs.Layout.{version_of, count_of, current_df_of}
use Rattle.card.proofs.Versions.{version_stays}
use Rattle.maker.specs.declared.Edition.{Edition}
use Rattle.sound.specs.Table.{View, view_at}
use Rattle.sound.specs.Sound.{Sound}
use Rattle.sound.specs.Kin.{Kin}
use Rattle.sound.specs.Kinship.{total_for, room_for, fits_room}
use Rattle.maker.specs.Making.{made_of, left_by}
use Rattle.maker.proofs.Buffers.{sound-made, version-made, alone-made}
use Rattle.verdict.specs.Words.{done, not_enough_memory}
use Rattle.card.specs.Demands.{Call, image_after}
use Rattle.card.proofs.Answered.{stays_sound}
use Rattle.card.proofs.Demands.{effect-and-no-other}
use Rattle.history.specs.Ledger.{sum_over, opened}
use Rattle.history.specs.Story.{Story, begun, hears, next, played, Ready, word_for, size_sent}
use Rattle.history.specs.Demand3.{here, room, Lives, Strikes, Makes, Demand3, History, Demand3Holds}
use Rattle.history.proofs.Agree.{Agrees, worth, sum_files, worth_free, worth_root}
use Rattle.history.proofs.Directories.{Dir, dir-lives, lives-dir, charged-same, total-same, room-same}
use Rattle.history.proofs.Did.{Did, agree_step}
use Rattle.history.proofs.Rooms.{Spared, spared, struck, made_none}
use Rattle.history.proofs.Heard.{call_did}
use Rattle.history.proofs.Memory.{memory_decides}
use Rattle.history.proofs.Begins.{begins_by}

-- the slots of a card, what its records say, and what they say after a call
abbrev pub slots : Story → ℕ
slots st = count_of st.image

abbrev pub table : Story → ℕ → View
table st = view_at st.image

abbrev pub table_after : Story → Call → ℕ → View
table_after st x = view_at (image_after st.image x)

-- ledger and card belong together
pub record Kept (st : Story) : Type 0 where
  pub sound : Sound st.image
  pub agrees : Agrees st.ledger (slots st) (table st)
  pub version : version_of st.image ≡ st.version

-- on a fresh card there is no file but the root
kept_fresh : (img : List ℕ) (e : Edition) (total form : ℕ) (rule : List ℕ) → made_of img e total form rule ≡ Ok tt
    → Kept (begun e.version (left_by (Ok tt) img e total form rule) total)
unfolding opened sum_over sum_files
kept_fresh img e total form rule made =
    let v = view_at (left_by (Ok tt) img e total form rule) in
    let a = alone-made img e total form rule made in
    record {
      sound = sound-made img e total form rule made;
      version = version-made img e total form rule made;
      agrees = record {
        total = sym a.root;
        each = λ f. sym (sum-none _ (λ s. worth f s (v s)) (λ s l. ⊎_elim
            (λ z. worth_root f s (v s) z)
            (λ z. worth_free f s (v s) (ap (λ (x : View). x.kind) (a.rest s l z)))
            (same_or s 0)));
      };
    }

-- of one call on a card whose ledger is kept
module _ (st : Story) (k : Kept st) (x : Call) where
  some : 0 < slots st
  some = omega (arith, k.sound.header.least)

  count_stays : count_of (image_after st.image x) ≡ slots st
  count_stays = (effect-and-no-other st.image x.pool x.command x.state x.lent k.sound).count

  pub did : Did (slots st) (table st) (table_after st x) (hears st x) (current_df_of st.image)
      (current_df_of (image_after st.image x))
  did = rw (← k.version) (call_did st.image x k.sound)

  -- the ledger afterwards, beside the records in as many slots as before
  pub agrees_after : Agrees (next st x).ledger (slots st) (table_after st x)
  unfolding next
  agrees_after = agree_step st.ledger (slots st) (table st) (table_after st x) k.agrees k.sound.kin some
      (hears st x) (current_df_of st.image) (current_df_of (image_after st.image x)) did

  sound-after : Sound (image_after st.image x)
  sound-after = stays_sound st.image x.pool x.command x.state x.lent k.sound

  pub kin-after : Kin (slots st) (table_after st x)
  kin-after = rw count_stays at sound-after.kin

  pub kept_next : Kept (next st x)
  unfolding next
  kept_next = record {
    sound = sound-after;
    agrees = rw count_stays agrees_after;
    version = version_stays st.image x.pool x.command x.state x.lent ∙ k.version;
  }

pub kept-played : (calls : List Call) (st : Story) → Kept st → Kept (played st calls)
kept-played [] st k = k
kept-played (x ∷ rest) st k = kept-played rest (next st x) (kept_next st k x)

pub history_kept : (st : Story) → History st → Kept st
history_kept st h =
    subst (λ (s : Story). Kept s) h.story
    (kept-played h.calls _ (kept_fresh h.buffer h.edition h.total h.form h.rule h.made))

-- 6A84 exactly where size plus 64 exceeds the room, else 9000
module _ (need left : ℕ) where
  refuses : (cond (leb need left) done not_enough_memory ≡ not_enough_memory) ↔ (left < need)
  refuses = (λ e. to (leb need left) refl e, λ h. rw (lt-leb need left h))
    where
      to : (b : Bool) → leb need left ≡ b → cond b done not_enough_memory ≡ not_enough_memory → left < need
      to true q e = absurd (omega (arith, e))
      to false q e = leb-false need left q

  accepts : (cond (leb need left) done not_enough_memory ≡ done) ↔ (need ≤ left)
  accepts = (λ e. to (leb need left) refl e, λ h. rw (le-leb need left h))
    where
      to : (b : Bool) → leb need left ≡ b → cond b done not_enough_memory ≡ done → need ≤ left
      to true q e = leb-true need left q
      to false q e = absurd (omega (arith, e))

module _ (st : Story) (k : Kept st) where
  dir : (d : ℕ) → Lives st d → Dir (slots st) (table st) d
  dir d l = lives-dir st.ledger (slots st) (table st) k.agrees k.sound.kin (omega (arith, k.sound.header.least)) d l

  pub current-dir : Dir (slots st) (table st) (here st)
  current-dir = record { low = k.sound.current.df-low; dir = k.sound.current.df-dir }

  pub room_is : (d : ℕ) → Dir (slots st) (table st) d → room st d ≡ room_for (slots st) (table st) d
  room_is d g = room-same st.ledger (slots st) (table st) k.agrees d g

  word-says : (x : Call) → Ready st.image x
      → word_for st.image x ≡ cond (leb (size_sent st.version x + 64) (room st (here st))) done not_enough_memory
  unfolding fits_room
  word-says x r = rw (← k.version) (memory_decides st.image x k.sound r ∙ rw (room_is (here st) current-dir))

  -- a directory that lives, and a call that spares it
  module _ (x : Call) (d : ℕ) (lives : Lives st d) where
    stays : (Strikes st x d → ⊥) → Spared (slots st) (table st) (table_after st x) (here st) d
    stays z =
        spared st.ledger (slots st) (table st) _ k.agrees k.sound.kin (omega (arith, k.sound.header.least)) d (dir d lives)
        (hears st x) (here st) (current_df_of (image_after st.image x)) (did st k x) (untrue _ z)

    goes_on : (Strikes st x d → ⊥) → Lives (next st x) d
    goes_on z = dir-lives (next st x).ledger (slots st) _ (agrees_after st k x) d (stays z).dir

    elsewhere : (Strikes st x d → ⊥) → (d ≡ here st → ⊥) → room (next st x) d ≡ room st d
    elsewhere z o =
        room-same (next st x).ledger (slots st) _ (agrees_after st k x) d (stays z).dir
        ∙ (stays z).room o ∙ sym (room_is d (dir d lives))

    ends : Strikes st x d → Lives (next st x) d → ⊥
    ends s l =
        struck st.ledger (slots st) (table st) _ k.agrees k.sound.kin (omega (arith, k.sound.header.least)) d (dir d lives)
        (hears st x) (here st) (current_df_of (image_after st.image x)) (did st k x) s
        (lives-dir (next st x).ledger (slots st) _ (agrees_after st k x) (kin-after st k x) (omega (arith, k.sound.header.least)) d l)

  -- a new directory stands where none lived, and its room is its total
  newborn : (x : Call) (d : ℕ) (m : Makes st x d) → (Lives st d → ⊥) × (Lives (next st x) d × (room (next st x) d ≡ m.total))
  unfolding room_for total_for next
  newborn x d m =
      let c = rw m.makes at (did st k x) in
      let e : d ≡ c.slot = sym m.slot ∙ c.own refl in
      let g : Dir (slots st) (table_after st x) d = rw e (record { low = c.low; dir = c.kind }) in
      let z = made_none (slots st) (table st) (table_after st x) k.sound.kin _ _ true _ _ c k.sound.current.df-dir in (
        λ l. omega (arith, (dir d l).dir, c.free, ap (λ (y : ℕ). (table st y).kind) e),
        (
          dir-lives (next st x).ledger (slots st) (table_after st x) (agrees_after st k x) d g,
          room-same (next st x).ledger (slots st) (table_after st x) (agrees_after st k x) d g ∙ rw e (omega (arith, z, c.size)),
        ),
      )

  pub kept_demand : Demand3 st
  kept_demand = record {
    everyone = λ d. (
      (λ l. ((dir d l).low, (dir d l).dir)),
      (λ h. dir-lives st.ledger (slots st) (table st) k.agrees d (record { low = h.0; dir = h.1 })),
    );
    rooms = λ d l. room_is d (dir d l);
    covered = λ d l. unfold total_for in omega (
      arith,
      charged-same st.ledger (slots st) (table st) k.agrees d,
      total-same st.ledger (slots st) (table st) k.agrees d (dir d l),
      k.sound.kin.charges d (dir d l).low (dir d l).dir,
    );
    current = dir-lives st.ledger (slots st) (table st) k.agrees (here st) current-dir;
    full = λ x r. rw (word-says x r) (refuses (size_sent st.version x + 64) (room st (here st)));
    takes = λ x r. rw (word-says x r) (accepts (size_sent st.version x + 64) (room st (here st)));
    begins = λ x d dead lives. begins_by st x d dead lives;
    newborn = newborn;
    ends = λ x d l. ends x d l;
    goes_on = λ x d l. goes_on x d l;
    elsewhere = λ x d l. elsewhere x d l;
  }

pub demand3_holds : Demand3Holds
demand3_holds st h = kept_demand st (history_kept st h)
