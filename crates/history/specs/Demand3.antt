-- Demand 3, and what follows from it, as statements about any history of commands on a fresh card (01 "What the
-- statements must tie down"). Each is proved in proofs/Demand or proofs/Corollaries under the same name in small letters.
use Rattle.std.specs.Prelude.{◌≡◌, Bool, true, List, [], ◌∷◌, ◌↔◌, ℕ, ◌+◌, ◌<◌, ◌≤◌, None, Ok}
use Rattle.rules.specs.Descriptor.{df}
use Rattle.image.specs.Layout.{count_of, current_df_of}
use Rattle.pool.specs.Bodies.{start_at, body_at}
use Rattle.pool.specs.Laid.{Laid}
use Rattle.sound.specs.Table.{view_at}
use Rattle.sound.specs.Kinship.{free_slot, room_for}
use Rattle.maker.specs.declared.Edition.{Edition}
use Rattle.maker.specs.Making.{made_of, left_by}
use Rattle.verdict.specs.Words.{done, not_enough_memory}
use Rattle.card.specs.Command.{PoolFits}
use Rattle.card.specs.Demands.{Call}
use Rattle.history.specs.Ledger.{makes, deletes, neither, lives_in, total_in, charged_in, room_in, file_in, strikes}
use Rattle.history.specs.Story.{Story, begun, word_for, hears, next, played, Ready, size_sent}

-- the directory whose slot is current
abbrev pub here : Story → ℕ
here st = current_df_of st.image

-- its room; whether it lives; by the ledger
abbrev pub room : Story → ℕ → ℕ
room st d = room_in st.ledger d

abbrev pub Lives : Story → ℕ → Type 0
Lives st d = lives_in st.ledger d ≡ true

-- a call deletes directory d, or one above it
abbrev pub Strikes : Story → Call → ℕ → Type 0
Strikes st x d = strikes st.ledger (hears st x) (here st) d ≡ true

-- a call made directory d: a CREATE of a DF, answered 9000, whose slot is then current
pub record Makes (st : Story) (x : Call) (d : ℕ) : Type 0 where
  pub identifier : ℕ
  pub total : ℕ
  pub makes : hears st x ≡ makes identifier total true
  pub slot : here (next st x) ≡ d

pub record Demand3 (st : Story) : Type 0 where
  -- every directory of the card lives in the ledger, and no other slot does
  pub everyone : (d : ℕ) → Lives st d ↔ ((d < count_of st.image) × ((view_at st.image d).kind ≡ df))
  -- any directory that lives: its room by the ledger is what its records give, and the total is never exceeded
  pub rooms : (d : ℕ) → Lives st d → room st d ≡ room_for (count_of st.image) (view_at st.image) d
  pub covered : (d : ℕ) → Lives st d → charged_in st.ledger d ≤ total_in st.ledger d
  -- the current one lives; where every earlier check passes, CREATE FILE says 6A84 exactly if size plus 64 exceeds its
  -- room, and 9000 otherwise
  pub current : Lives st (here st)
  pub full : (x : Call) → Ready st.image x → (word_for st.image x ≡ not_enough_memory)
      ↔ (room st (here st) < size_sent st.version x + 64)
  pub takes : (x : Call) → Ready st.image x → (word_for st.image x ≡ done) ↔ (size_sent st.version x + 64 ≤ room st (here st))
  -- from its creation, in a slot where none lived, with its announced total for its room
  pub begins : (x : Call) (d : ℕ) → (Lives st d → ⊥) → Lives (next st x) d → Makes st x d
  pub newborn : (x : Call) (d : ℕ) (m : Makes st x d) → (Lives st d → ⊥) × (Lives (next st x) d × (room (next st x) d ≡ m.total))
  -- until it or one above it is deleted
  pub ends : (x : Call) (d : ℕ) → Lives st d → Strikes st x d → Lives (next st x) d → ⊥
  pub goes_on : (x : Call) (d : ℕ) → Lives st d → (Strikes st x d → ⊥) → Lives (next st x) d
  -- nothing done while another is current takes a byte from it, or gives it one
  pub elsewhere : (x : Call) (d : ℕ) → Lives st d → (Strikes st x d → ⊥) → (d ≡ here st → ⊥) → room (next st x) d ≡ room st d

-- a history: what the maker left of some buffer, a card of any version, and any list of calls on it
pub record History (st : Story) : Type 0 where
  pub buffer : List ℕ
  pub edition : Edition
  pub total : ℕ
  pub form : ℕ
  pub rule : List ℕ
  pub calls : List Call
  pub made : made_of buffer edition total form rule ≡ Ok tt
  pub story : played (begun edition.version (left_by (Ok tt) buffer edition total form rule) total) calls ≡ st

abbrev pub Demand3Holds : Type 0
Demand3Holds = (st : Story) → History st → Demand3 st

-- nothing done elsewhere, over any list of calls: as long as none is given while d is current, nor deletes it or one above
abbrev pub AllElsewhere : Story → List Call → ℕ → Type 0
AllElsewhere st [] d = Unit {0}
AllElsewhere st (x ∷ rest) d = (d ≡ here st → ⊥) × ((Strikes st x d → ⊥) × AllElsewhere (next st x) rest d)

abbrev pub NothingElsewhere : Type 0
NothingElsewhere = (st : Story) → History st → (d : ℕ) → Lives st d → (calls : List Call) → AllElsewhere st calls d
    → Lives (played st calls) d × (room (played st calls) d ≡ room st d)

-- a full file table never refuses a CREATE that has room: a free record is there, and the word is 9000
abbrev pub FullTableNever : Type 0
FullTableNever = (st : Story) → History st → (x : Call) → Ready st.image x → size_sent st.version x + 64 ≤ room st (here st)
    → (free_slot (count_of st.image) (view_at st.image) ≡ None → ⊥) × (word_for st.image x ≡ done)

-- .. and a fragmented pool never does (02 Ticket 4): however the bodies lie, such a CREATE is answered 9000, and afterwards all bodies, the
-- new one among them, lie apart in a pool of the root's total
abbrev pub FragmentedPoolNever : Type 0
FragmentedPoolNever = (st : Story) → History st → (x : Call) → Ready st.image x → size_sent st.version x + 64 ≤ room st (here st)
    → (word_for st.image x ≡ done)
    × Laid (count_of (next st x).image) (start_at (next st x).image) (body_at (next st x).image) (next st x).ledger.total

-- a pool of a wrong length, answer 6: nothing changes, and the ledger hears nothing
abbrev pub WrongPoolUnheard : Type 0
WrongPoolUnheard = (st : Story) → History st → (x : Call) → (PoolFits st.image x.pool → ⊥)
    → (hears st x ≡ neither) × (next st x ≡ st)

-- a file is charged to its direct parent alone: size plus 64, and no other directory that lives pays anything
abbrev pub ParentPaysAlone : Type 0
ParentPaysAlone = (st : Story) → History st → (x : Call) (i size : ℕ) (is_df : Bool) → hears st x ≡ makes i size is_df
    → (room (next st x) (here st) + (size + 64) ≡ room st (here st))
    × ((d : ℕ) → Lives st d → (d ≡ here st → ⊥) → room (next st x) d ≡ room st d)

-- a deleted file gives back exactly what it took, however much lay beneath it
abbrev pub GivesBack : Type 0
GivesBack = (st : Story) → History st → (x : Call) (i : ℕ) → hears st x ≡ deletes i
    → room (next st x) (here st) ≡ room st (here st) + ((file_in st.ledger (here st) i).size + 64)

-- a deleted identifier that comes back at once is charged anew, by what is announced then; one that comes back later is
-- charged as any new file is (`ParentPaysAlone`)
abbrev pub ChargedAnew : Type 0
ChargedAnew = (st : Story) → History st → (x y : Call) (i size : ℕ) (is_df : Bool) → hears st x ≡ deletes i
    → hears (next st x) y ≡ makes i size is_df
    → (room (next (next st x) y) (here st) + (size + 64) ≡ room st (here st) + ((file_in st.ledger (here st) i).size + 64))
    × ((file_in (next (next st x) y).ledger (here st) i).size ≡ size)
