-- CREATE FILE (01 "CREATE"): the steps H to L that it is judged by, and the effect that it then has. n is the slot
-- count, d the current DF.
use Rattle.std.specs.Prelude.{ℕ, Bool, not, ◌&&◌, List, [], ◌∷◌}
use Rattle.rules.specs.declared.Sets.{Sets}
use Rattle.rules.specs.declared.Right.{Right}
use Rattle.rules.specs.Life.{is_deactivated}
use Rattle.image.specs.Layout.{version_of}
use Rattle.sound.specs.Table.{view_at}
use Rattle.sound.specs.Kinship.{free_slot, terminated_up, identifier_free, name_free, fits_room}
use Rattle.create_data.specs.declared.Data.{Data}
use Rattle.std.specs.Prelude.{Option}
use Rattle.create_data.specs.Data.{data_of}
use Rattle.verdict.specs.Words.{security_not_satisfied, conditions_not_satisfied, wrong_data, not_enough_memory, identifier_exists}
use Rattle.verdict.specs.Words.{name_exists}
use Rattle.judge_target.specs.Steps.{Step, step, Plan, plan}
use Rattle.judge_target.specs.Target.{life_at, allowed_at, slot_in, describes, right_for, new_identifier, new_size, new_name, creating}

-- directory d takes files: it isn't 04 or 0C, and none above is 0C
unfoldable pub takes_files : List ℕ → ℕ → Bool
takes_files img d = not (is_deactivated (life_at img d)) && not (terminated_up img d)

-- a new file is admitted to directory d: by b3 or b2 of its rule, its life cycle, then identifier, name, memory
abbrev pub admission : List ℕ → List ℕ → ℕ → ℕ → Right → ℕ → List ℕ → ℕ → Sets → List Step
admission img pool n d right identifier name size x =
    step (allowed_at img pool d right x) security_not_satisfied  -- J
    ∷ step (takes_files img d) conditions_not_satisfied  -- K
    ∷ step (identifier_free n (view_at img) d identifier) identifier_exists  -- L
    ∷ step (name_free n (view_at img) name) name_exists
    ∷ step (fits_room n (view_at img) d size) not_enough_memory
    ∷ []

-- CREATE; s is its data. The new file takes the lowest free slot
abbrev pub create : List ℕ → List ℕ → ℕ → ℕ → List ℕ → Sets → Plan
create img pool n d s x =
    let new : Option Data = data_of (version_of img) s in
    plan
    (step (describes new) wrong_data  -- H
    ∷ admission img pool n d (right_for new) (new_identifier new) (new_name s new) (new_size new) x)  -- J to L
    (creating img d (slot_in (free_slot n (view_at img))) new)
