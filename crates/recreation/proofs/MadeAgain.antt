-- Re-creation (`made_again`): CREATE's conditions hold on a card that welcomes the file, and what it makes of the data is the file's
-- own record under another parent and level, with the start that its body has there.
use mathlib.Core.Path.{◌≡◌, refl, sym, ap, subst, ◌∙◌}
use mathlib.Core.Bool.{Bool, true, false, false≢true}
use mathlib.Core.List.{List, ◌++◌}
use mathlib.Core.Logic.{⊎_elim}
use Prim.Native.Nat.{ℕ, zero, suc, ◌+◌, ◌<◌, ◌≤◌}
use native.Mathlib.Omega.{arith}
use lib.Dec.{eqb, ltb}
use lib.ListN.{length, get_or, get_or-eq_default}
use borrow.Author.Tests.{ltb-true, ltb-false}
use Rattle.std.specs.Prelude.{Option, Some, None}
use Rattle.laws.specs.Lists.{Bytes, splice}
use Rattle.laws.proofs.Firsts.{first_is}
use Rattle.numbers.specs.Numbers.{be16}
use Rattle.rules.specs.Life.{new_life, life_of, activated, deactivated, terminated}
use Rattle.rules.proofs.Lives.{same-says}
use Rattle.image.specs.Layout.{version_of, base, count_of, current_df_of, rec_at, life_cycle_of, identifier_of, size_of, name_of, rule_of}
use Rattle.image.proofs.Places.{byte_in, length_record}
use Rattle.access.proofs.Fits.{fits-short}
use Rattle.sound.specs.Own.{Used}
use Rattle.sound.specs.Table.{view_at, up}
use Rattle.sound.specs.Sound.{Sound}
use Rattle.sound.specs.Kinship.{free_slot, room_for}
use Rattle.sound.specs.Effects.{made}
use Rattle.sound.proofs.Front.{sound-within}
use Rattle.sound.proofs.FullTable.{root-above, slot_exists}
use Rattle.create_data.specs.declared.Data.{Data}
use Rattle.std.specs.Prelude.{Option, Some, None}
use Rattle.create_data.specs.declared.Data.TheVariants.{Df, Ef}
use Rattle.create_data.specs.Data.{data_of}
use Rattle.fcp.specs.Template.{template_of, with_c6}
use Rattle.fcp.specs.Again.{Sends, Tells, head_again, started_at}
use Rattle.fcp.proofs.Values.{name-short}
use Rattle.fcp.proofs.ReadBack.{read_back}
use Rattle.verdict.specs.declared.State.{State}
use Rattle.judge_target.specs.Target.{life_at, slot_in, right_for, new_identifier, new_name, new_size}
use Rattle.card.specs.Conditions.{Met, NoneTerminated, create_asks, found}
use Rattle.card.specs.Obeyed.{creating}
use Rattle.card.proofs.Obeyed.{create_obeys}
use Rattle.recreation.proofs.NewRecord.{made_record, bytes-again}
use Rattle.recreation.proofs.Told.{found_stands, select_told}
use Rattle.recreation.specs.Recreation.{create_of, right_of, Welcomes, new_slot, new_start, MadeAgain}

-- what data say that tell of record r
record Same (s r : List ℕ) (x : Option Data) : Type 0 where
  right : right_for x ≡ right_of r
  identifier : new_identifier x ≡ identifier_of r
  name : new_name s x ≡ name_of r
  size : new_size x ≡ size_of r

same : (s r : List ℕ) (x : Option Data) → Tells s r x → Same s r x
same s r None t = absurd t
same s r (Some (Df x)) t = record { right = rw t.kind_is; identifier = t.identifier; name = t.name; size = t.size }
same s r (Some (Ef x)) t = record { right = rw t.kind_is; identifier = t.identifier; name = t.name; size = t.size }

-- .. and what CREATE makes of them
makes : (other s r : List ℕ) (slot : ℕ) (x : Option Data) → Tells s r x
    → creating other s slot x
    ≡ made other slot (head_again r (current_df_of other) ((view_at other (current_df_of other)).level + 1)) (name_of r) (rule_of r)
makes other s r slot None t = absurd t
makes other s r slot (Some (Df x)) t = cc
makes other s r slot (Some (Ef x)) t = cc

-- what is sent is some data
sends_some : (r s : List ℕ) → Sends r (template_of r) s → 1 ≤ length s
unfolding template_of with_c6
sends_some r s w = ⊎_elim (λ e. omega (arith, ap length e.sent)) (λ d. omega (arith, ap length d.sent)) w

-- every byte of a record is one
bytes-in : (img : List ℕ) (s : ℕ) → base s + 64 ≤ length img → Bytes img → Bytes (rec_at img s)
bytes-in img s h b k = go (ltb k 64) refl
  where
    go : (t : Bool) → ltb k 64 ≡ t → get_or (rec_at img s) k 0 < 256
    go true q = rw (byte_in img s k (ltb-true k 64 q)) (b (base s + k))
    go false q =
        let l : length (rec_at img s) ≤ k = omega (arith, length_record img s h, ltb-false k 64 q) in
        rw (get_or-eq_default (rec_at img s) 0 l) (omega arith)

module _ (other : List ℕ) (sound : Sound other) where
  -- the new slot is one
  module _ (size : ℕ) (room : size + 64 ≤ room_for (count_of other) (view_at other) (current_df_of other)) where
    slot-low : new_slot other < count_of other
    unfolding free_slot
    slot-low = go (free_slot (count_of other) (view_at other)) refl
      where
        go : (f : Option ℕ) → free_slot (count_of other) (view_at other) ≡ f → slot_in f < count_of other
        go (Some t) e = (first_is (count_of other) (λ t. eqb (view_at other t).kind 0) t e).low
        go None e = absurd (slot_exists other (current_df_of other) size sound sound.current.df-low sound.current.df-dir room e)

-- the file in slot s, whose template is sent
module _ (img : List ℕ) (s : ℕ) (sent other bodies : List ℕ) (st : State) (own : Used (version_of other) (rec_at img s))
    (life : new_life (life_cycle_of (rec_at img s)) ≡ true) (sends : Sends (rec_at img s) (template_of (rec_at img s)) sent) (whole : Sound other)
    (welcomes : Welcomes img other bodies (rec_at img s) st) where
  told : Tells sent (rec_at img s) (data_of (version_of other) sent)
  told = (read_back (version_of other) (rec_at img s) sent own life sends).1

  said : Same sent (rec_at img s) (data_of (version_of other) sent)
  said = same sent (rec_at img s) (data_of (version_of other) sent) told

  -- neither the current directory nor one above is terminated, so the root isn't
  none-terminated : NoneTerminated other (current_df_of other)
  unfolding up
  none-terminated zero l e = false≢true ((same-says activated terminated).1 (sym welcomes.active ∙ e))
  none-terminated (suc k) l e = welcomes.above (suc k) (omega arith) l e

  alive : life_of (life_at other 0) ≡ terminated → ⊥
  alive e = none-terminated (view_at other (current_df_of other)).level (omega arith)
      (ap (λ (x : ℕ). life_of (life_at other x))
      (root-above (count_of other) (view_at other) whole.kin (omega (arith, whole.header.least)) (current_df_of other)
      whole.current.df-low (λ z. omega (arith, z, whole.current.df-dir))) ∙ e)

  met : Met (create_asks other bodies (create_of sent) st)
  met = (
    omega arith,
    (
      (λ k. omega (arith, k.0)),
      (
        refl,
        (
          alive,
          (
            welcomes.alone,
            (
              (refl, refl),
              (
                (sends_some (rec_at img s) sent sends, omega arith),
                (
                  (read_back (version_of other) (rec_at img s) sent own life sends).0,
                  (
                    rw said.right welcomes.right,
                    (
                      ((λ e. false≢true ((same-says activated deactivated).1 (sym welcomes.active ∙ e))), none-terminated),
                      (
                        rw said.identifier ((λ t l f p q. welcomes.empty t l f p), welcomes.identifier),
                        (
                          rw said.name welcomes.name,
                          (rw said.size welcomes.room, tt),
                        ),
                      ),
                    ),
                  ),
                ),
              ),
            ),
          ),
        ),
      ),
    ),
  )

-- what was told is the template
of_template : (r t u s : List ℕ) → t ≡ u → Sends r t s → Sends r u s
of_template r t u s e w = subst (λ (x : List ℕ). Sends r x s) e w

pub made_again : MadeAgain
made_again img pool c st response n sent other bodies state buffer bytes sound said life sends whole welcomes =
    let s = found img c in
    let r = rec_at img s in
    let d = current_df_of other in
    let file = found_stands img pool c st response n sound said in
    let u : Used (version_of other) r = rw welcomes.version ((sound.records s file.low).used file.used) in
    let w = of_template r _ _ sent (select_told img pool c st response n sound said) sends in
    let k = (create_obeys other bodies (create_of sent) state buffer whole welcomes.pool-fits refl).met
    (met img s sent other bodies state u life w whole welcomes)
    in
    let long = (sound-within img sound s file.low).0 in
    let slot = slot-low other whole (size_of r) welcomes.room in (
      k.0,
      ap (λ (x : List ℕ). rec_at x (new_slot other)) (k.1 ∙ makes other sent r (new_slot other) (data_of (version_of other) sent)
          (told img s sent other bodies state u life w whole welcomes))
          ∙ made_record other whole (new_slot other) _ _ _ slot (name-short _ r u) (fits-short _ _ (rule_of r) u.formed)
          ∙ bytes-again other r _ _ (length_record img s long) (bytes-in img s long bytes) u
          ∙ ap (λ (v : ℕ). splice (started_at v r (new_start other r)) 6 (be16 d ++ be16 ((view_at other d).level + 1))) welcomes.version,
    )
