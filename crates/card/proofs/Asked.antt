-- The tests that judging makes, each beside the sentence that it stands for (specs/Conditions).
use mathlib.Core.Path.{◌≡◌, refl, sym, ap, ◌∙◌}
use mathlib.Core.Bool.{Bool, true, false, not, cond, ◌||◌, false≢true}
use mathlib.Core.List.{List}
use mathlib.Core.Logic.{◌↔◌, ◌⊎◌, inl, inr, ⊎_elim}
use Prim.Native.Nat.{ℕ, suc, ◌+◌, ◌*◌, ◌/◌, ◌%◌, ◌<◌, ◌≤◌}
use native.Mathlib.Omega.{arith}
use lib.Dec.{eqb}
use lib.ListN.{length, get_or}
use Rattle.laws.proofs.Says.{says, and-says, or-says, eq-says, le-says, not-says}
use Rattle.numbers.specs.Numbers.{u16_at}
use Rattle.rules.specs.declared.Sets.{Sets}
use Rattle.rules.specs.declared.Right.TheVariants.{DeleteSelf, DeleteChild}
use Rattle.rules.specs.Life.{life_of, terminated, deactivated}
use Rattle.rules.proofs.Lives.{same-says}
use Rattle.image.specs.Layout.{count_of}
use Rattle.sound.specs.Table.{view_at}
use Rattle.sound.specs.Kinship.{terminated_at, terminated_up, identifier_free}
use Rattle.sound.proofs.Climbing.{upward-says}
use Rattle.sound.proofs.Created.{identifier-says}
use Rattle.create_data.specs.declared.Data.{Data}
use Rattle.std.specs.Prelude.{Option, Some, None}
use Rattle.create_data.specs.declared.Data.TheVariants.{Df, Ef}
use Rattle.create_data.specs.Data.{data_of}
use Rattle.create_data.specs.Grammar.{DfData, EfData}
use Rattle.create_data.proofs.Grammar.{data_exactly}
use Rattle.verdict.specs.declared.State.{State}
use Rattle.judge_target.specs.Target.{life_at, allowed_at, describes}
use Rattle.apdu.specs.Apdu.{instruction, lc, on_other_channel, is_known, wants_alone, other_channel, crowded}
use Rattle.apdu.specs.Apdu.{wants_template, good_parameters, fit_parameters, has_data, is_seven, is_eight, fit_length, select_file, create_file}
use Rattle.apdu.specs.Apdu.{delete_file, is_body, is_binary, is_record, is_read, is_update}
use Rattle.judge_create.specs.Creation.{takes_files}
use Rattle.judge_commands.specs.Commands.{may_delete}
use Rattle.card.specs.Conditions.{NoneTerminated, FreeIdentifier, AsksTemplate, SelectLong}

pub not_twice : (b : Bool) → (not (not b) ≡ true) ↔ (b ≡ true)
not_twice true = ((λ e. e), (λ e. e))
not_twice false = ((λ e. e), (λ e. e))

-- B
pub channel_says : (k : ℕ) → (not (on_other_channel k) ≡ true) ↔ ((1 ≤ k) × (k ≤ 3) → ⊥)
unfolding on_other_channel
channel_says k = simp says ((λ h. h), (λ h. h))

-- D
pub alive_says : (img : List ℕ) (s : ℕ) → (not (terminated_at img s) ≡ true) ↔ (life_of (life_at img s) ≡ terminated → ⊥)
unfolding terminated_at
alive_says img s = simp (says, same-says) ((λ h. h), (λ h. h))

-- K: the file and the directories above it
pub none-says : (img : List ℕ) (s : ℕ) → (not (terminated_up img s) ≡ true) ↔ NoneTerminated img s
unfolding terminated_up terminated_at
none-says img s = (
  (λ h k l e. (upward-says (view_at img) (terminated_at img) (suc (view_at img s).level) s).0 h k (omega arith) ((same-says _ _).1 e)),
  (λ f. (upward-says (view_at img) (terminated_at img) (suc (view_at img s).level) s).1 (λ k l e. f k (omega arith) ((same-says _ _).0 e))),
)

pub takes-says : (img : List ℕ) (d : ℕ) → (takes_files img d ≡ true) ↔ ((life_of (life_at img d) ≡ deactivated → ⊥) × NoneTerminated img d)
unfolding takes_files
takes-says img d = (
  (λ h. let p = (and-says _ _).0 h in ((λ e. (not-says _).0 p.0 ((same-says _ _).1 e)), (none-says img d).0 p.1)),
  (λ f. (and-says _ _).1 ((not-says _).1 (λ e. f.0 ((same-says _ _).0 e)), (none-says img d).1 f.1)),
)

-- J of DELETE
pub deletes-says : (img pool : List ℕ) (d s : ℕ) (x : Sets)
    → (may_delete img pool d s x ≡ true) ↔ ((allowed_at img pool s DeleteSelf x ≡ true) ⊎ (allowed_at img pool d DeleteChild x ≡ true))
unfolding may_delete
deletes-says img pool d s x = or-says _ _

-- L
pub identifier-free : (img : List ℕ) (d i : ℕ) → (identifier_free (count_of img) (view_at img) d i ≡ true) ↔ FreeIdentifier img d i
identifier-free img d i = (
  (λ h. let p = (identifier-says (count_of img) (view_at img) d i).0 h in
      ((λ s l f q r. p.0 s l ((f, q), r)), (λ k l. p.1 k (omega arith)))),
  (λ f. (identifier-says (count_of img) (view_at img) d i).1 ((λ s l k. f.0 s l k.0.0 k.0.1 k.1), (λ k l. f.1 k (omega arith)))),
)

pub is_not-says : (a b : ℕ) → (not (eqb a b) ≡ true) ↔ (a ≡ b → ⊥)
is_not-says a b = simp says ((λ h. h), (λ h. h))

-- P1 P2 as one number
pair_says : (c : List ℕ) (p : ℕ) → p < 256 → (eqb (u16_at c 2) p ≡ true) ↔ ((get_or c 2 0 ≡ 0x00) × (get_or c 3 0 ≡ p))
unfolding u16_at
pair_says c p l = (
  (λ h. let e : get_or c 2 0 * 256 + get_or c 3 0 ≡ p = (eq-says _ _).0 h in (omega arith, omega arith)),
  (λ h. let e : get_or c 2 0 * 256 + get_or c 3 0 ≡ p = omega (arith, h.0, h.1) in (eq-says _ _).1 e),
)

-- an instruction that is none on bodies
pub record Bodiless (i : ℕ) : Type 0 where
  pub binary : is_binary i ≡ false
  pub records : is_record i ≡ false
  pub read : is_read i ≡ false
  pub update : is_update i ≡ false

neither : (a b : Bool) → (a || b) ≡ false → (a ≡ false) × (b ≡ false)
neither true b h = absurd (false≢true (sym h))
neither false b h = (refl, h)

pub bodiless : (i : ℕ) → is_body i ≡ false → Bodiless i
unfolding is_body is_binary is_record is_read is_update
bodiless i h =
    let both = neither (eqb i 0xB0 || eqb i 0xD6) (eqb i 0xB2 || eqb i 0xDC) h in
    let a = neither (eqb i 0xB0) (eqb i 0xD6) both.0 in
    let b = neither (eqb i 0xB2) (eqb i 0xDC) both.1 in
    record { binary = both.0; records = both.1; read = rw (a.0, b.0); update = rw (a.1, b.1) }

-- C to G, by the instruction i of the command
module _ (c : List ℕ) (st : State) (i : ℕ) (e : instruction c ≡ i) where
  pub known : (v : ℕ) → is_known v i ≡ true → is_known v (instruction c) ≡ true
  known v k = ap (is_known v) e ∙ k

  pub calm : wants_alone i ≡ false → not (crowded (instruction c) st) ≡ true
  unfolding crowded
  calm w = rw (e, w)

  pub alone-says : wants_alone i ≡ true → (not (crowded (instruction c) st) ≡ true) ↔ (st.channels / 2 % 8 ≡ 0)
  unfolding crowded other_channel
  alone-says w = rw (e, w) ((λ h. (eq-says _ _).0 ((not_twice _).0 h)), (λ h. (not_twice _).1 ((eq-says _ _).1 h)))

  pub parameters_say : eqb i select_file ≡ false → Bodiless i → (fit_parameters c ≡ true) ↔ ((get_or c 2 0 ≡ 0x00) × (get_or c 3 0 ≡ 0x00))
  unfolding fit_parameters good_parameters
  parameters_say q b = rw (e, q, b.binary, b.records) (pair_says c 0x00 (omega arith))

-- F of SELECT: one of two
pub select-parameters : (c : List ℕ) → instruction c ≡ select_file
    → (fit_parameters c ≡ true) ↔ ((get_or c 2 0 ≡ 0x00) × ((get_or c 3 0 ≡ 0x0C) ⊎ AsksTemplate c))
unfolding fit_parameters good_parameters
select-parameters c e = rw e (
  (λ h. ⊎_elim (λ p. let q = (pair_says c 0x0C (omega arith)).0 p in (q.0, inl q.1))
      (λ p. let q = (pair_says c 0x04 (omega arith)).0 p in (q.0, inr q.1)) ((or-says _ _).0 h)),
  (λ h. (or-says _ _).1 (⊎_elim (λ p. inl ((pair_says c 0x0C (omega arith)).1 (h.0, p)))
      (λ p. inr ((pair_says c 0x04 (omega arith)).1 (h.0, p))) h.1)),
)

-- G
pub data_says : (c : List ℕ) → instruction c ≡ create_file → (fit_length c ≡ true) ↔ ((1 ≤ lc c) × (length c ≡ 5 + lc c))
unfolding fit_length has_data
data_says c e = rw e (
  (λ h. let p = (and-says _ _).0 h in
      let a : 6 ≤ length c = (le-says _ _).0 p.0 in
      let b : length c ≡ 5 + lc c = (eq-says _ _).0 p.1 in
      (omega arith, b)),
  (λ h. let a : 6 ≤ length c = omega (arith, h.0, h.1) in (and-says _ _).1 ((le-says _ _).1 a, (eq-says _ _).1 h.1)),
)

seven_says : (c : List ℕ) → (is_seven c ≡ true) ↔ ((length c ≡ 7) × (lc c ≡ 2))
unfolding is_seven
seven_says c = simp says ((λ h. h), (λ h. h))

eight_says : (c : List ℕ) → (is_eight c ≡ true) ↔ ((length c ≡ 8) × ((lc c ≡ 2) × (get_or c 7 0 ≡ 0x00)))
unfolding is_eight
eight_says c = simp says ((λ h. h), (λ h. h))

pub template-says : (c : List ℕ) → (wants_template c ≡ true) ↔ AsksTemplate c
unfolding wants_template
template-says c = eq-says _ _

pub select-length : (c : List ℕ) → instruction c ≡ select_file → (fit_length c ≡ true) ↔ SelectLong c
unfolding fit_length is_update is_read
select-length c e = rw e (go (wants_template c) refl)
  where
    go : (b : Bool) → wants_template c ≡ b → (cond b (is_eight c) (is_seven c) ≡ true) ↔ SelectLong c
    go true q = (
      (λ h. inl ((template-says c).0 q, (eight_says c).0 h)),
      (λ h. ⊎_elim (λ k. (eight_says c).1 k.1) (λ k. absurd (k.0 ((template-says c).0 q))) h),
    )
    go false q = (
      (λ h. inr ((λ k. false≢true (sym q ∙ (template-says c).1 k)), (seven_says c).0 h)),
      (λ h. ⊎_elim (λ k. absurd (false≢true (sym q ∙ (template-says c).1 k.0))) (λ k. (seven_says c).1 k.1) h),
    )

pub delete-length : (c : List ℕ) → instruction c ≡ delete_file → (fit_length c ≡ true) ↔ ((length c ≡ 7) × (lc c ≡ 2))
unfolding fit_length is_update is_read
delete-length c e = rw e (seven_says c)

pub four-says : (c : List ℕ) (i : ℕ) → instruction c ≡ i → eqb i create_file ≡ false → eqb i select_file ≡ false → eqb i delete_file ≡ false
    → Bodiless i → (fit_length c ≡ true) ↔ (length c ≡ 4)
unfolding fit_length
four-says c i e p q r b = rw (e, p, q, r, b.read, b.update) (eq-says _ _)

-- H: data that are good describe a file
good-file : (new : Option Data) → (describes new ≡ true) ↔ (new ≡ None → ⊥)
good-file None = ((λ e. absurd (false≢true e)), (λ f. absurd (f refl)))
good-file (Some (Df x)) = ((λ e q. false≢true (sym (ap describes q))), (λ f. refl))
good-file (Some (Ef x)) = ((λ e q. false≢true (sym (ap describes q))), (λ f. refl))

pub file-says : (v : ℕ) (s : List ℕ) → (describes (data_of v s) ≡ true) ↔ (DfData v s ⊎ EfData v s)
file-says v s = (
  (λ e. (data_exactly v s).0 ((good-file (data_of v s)).0 e)),
  (λ h. (good-file (data_of v s)).1 ((data_exactly v s).1 h)),
)
