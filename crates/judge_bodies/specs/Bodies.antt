-- READ BINARY, UPDATE BINARY, READ RECORD, UPDATE RECORD (02 Ticket 4), each as the steps I to L that it is judged by and the effect that
-- it then has. t is the current EF or FFFF; `reads` tells READ from UPDATE; n is how many bytes the command is about.
use Rattle.std.specs.Prelude.{ℕ, ◌+◌, ◌*◌, ◌-◌, Bool, cond, not, List, [], ◌∷◌, ◌++◌, eqb, ltb, leb, Ok}
use Rattle.rules.specs.declared.Right.{Right}
use Rattle.rules.specs.declared.Right.TheVariants as right
use Rattle.rules.specs.declared.Sets.{Sets}
use Rattle.rules.specs.Descriptor.{has_records}
use Rattle.rules.specs.Life.{is_activated}
use Rattle.image.specs.Layout.{none, rec_at, descriptor_of, record_length_of, size_of, start_of}
use Rattle.pool.specs.Records.{has_record}
use Rattle.sound.specs.Kinship.{terminated_up}
use Rattle.verdict.specs.Applied.{Verdict}
use Rattle.verdict.specs.declared.Effect.TheVariants.{Read, Update}
use Rattle.verdict.specs.Words.{wrong_length, wrong_structure, security_not_satisfied, conditions_not_satisfied, not_allowed}
use Rattle.verdict.specs.Words.{no_such_record}
use Rattle.verdict.specs.Words.{wrong_parameters}
use Rattle.judge_target.specs.Steps.{Step, step, Plan, plan}
use Rattle.judge_target.specs.Target.{life_at, allowed_at}

-- b1 of the EF's rule, b2
abbrev pub right_to : Bool → Right
right_to reads = cond reads right.Read right.Update

-- the steps J and K that the four share: the file may be read or updated
abbrev pub usable : List ℕ → List ℕ → ℕ → Bool → Sets → List Step
usable img pool t reads x =
    step (allowed_at img pool t (right_to reads) x) security_not_satisfied  -- J
    ∷ step (is_activated (life_at img t)) conditions_not_satisfied  -- K
    ∷ step (not (terminated_up img t)) conditions_not_satisfied
    ∷ []

-- I before them: an EF is current
abbrev pub opening : List ℕ → List ℕ → ℕ → Bool → Sets → List Step
opening img pool t reads x = step (not (eqb t none)) not_allowed ∷ usable img pool t reads x

-- what is read is told, what is updated is overwritten: n bytes of the body of t from k on
abbrev pub touching : List ℕ → ℕ → Bool → ℕ → ℕ → Verdict
touching img t reads k n = cond reads (Ok (Read (start_of (rec_at img t) + k) n)) (Ok (Update (start_of (rec_at img t) + k)))

-- READ and UPDATE BINARY from k on, of a transparent EF
abbrev pub on_bytes : List ℕ → ℕ → ℕ → ℕ → List Step
on_bytes img t k n =
    step (not (has_records (descriptor_of (rec_at img t)))) wrong_structure
    ∷ step (ltb k (size_of (rec_at img t))) wrong_parameters
    ∷ step (leb (k + n) (size_of (rec_at img t))) wrong_length
    ∷ []

unfoldable pub binary : List ℕ → List ℕ → ℕ → Bool → ℕ → ℕ → Sets → Plan
binary img pool t reads k n x = plan (opening img pool t reads x ++ on_bytes img t k n) (touching img t reads k n)

-- READ and UPDATE RECORD number i, of an EF with records
abbrev pub on_record : List ℕ → ℕ → ℕ → ℕ → List Step
on_record img t i n =
    step (has_records (descriptor_of (rec_at img t))) wrong_structure
    ∷ step (has_record img t i) no_such_record
    ∷ step (eqb n (record_length_of (rec_at img t))) wrong_length
    ∷ []

unfoldable pub recordwise : List ℕ → List ℕ → ℕ → Bool → ℕ → ℕ → Sets → Plan
recordwise img pool t reads i n x =
    plan (opening img pool t reads x ++ on_record img t i n) (touching img t reads ((i - 1) * record_length_of (rec_at img t)) n)
