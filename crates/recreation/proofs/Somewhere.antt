-- The hypotheses of re-creation can be met (`welcome-somewhere`): a fresh card of 1,023 slots welcomes every file of any card but a root.
use mathlib.Core.Path.{◌≡◌, refl, sym, ap, ◌∙◌}
use mathlib.Core.Bool.{true}
use mathlib.Core.List.{List, []}
use mathlib.Core.Logic.{⊎_elim}
use Prim.Native.Nat.{ℕ, suc, ◌+◌, ◌*◌, ◌-◌, ◌<◌, ◌≤◌}
use native.Mathlib.Omega.{arith}
use lib.Dec.{eqb}
use lib.ListN.{length}
use Rattle.laws.specs.Walks.{any_below, count_below}
use Rattle.laws.proofs.Says.{same_or}
use Rattle.laws.proofs.Sums.{sum-none}
use Rattle.rules.specs.declared.Right.{Right}
use Rattle.rules.specs.declared.Right.TheVariants.{CreateDf, CreateEf}
use Rattle.rules.specs.declared.Sets.{Sets}
use Rattle.rules.specs.Condition.{holds_of}
use Rattle.rules.specs.Descriptor.{df}
use Rattle.rules.specs.Group.{sc_at, slots_of, next_of, group_length, some_group}
use Rattle.rules.specs.Life.{life_of}
use Rattle.rules.proofs.Lives.{activated_is}
use Rattle.rules.specs.Rule.{malformed_at, compact_formed, holds_at, allows_of, compact_grants}
use Rattle.image.specs.Layout.{known_version, version_of, form_of}
use Rattle.image.specs.Layout.{count_of, current_df_of, rec_at, kind_of, life_cycle_of, identifier_of, size_of, rule_of, record_bytes}
use Rattle.image.proofs.Made.{life-made, form-made, rule-made}
use Rattle.image.proofs.Versions.{known-form, longest_least}
use Rattle.access.specs.Access.{compact, asked_as, well_formed, fits_record, granted_of}
use Rattle.access.proofs.Fits.{fits-says}
use Rattle.sound.specs.Table.{View, File, view_at, up, charged, charge_of}
use Rattle.sound.specs.Kin.{Placed}
use Rattle.sound.specs.Sound.{Sound, pool_length}
use Rattle.sound.specs.Kinship.{room_for, total_for}
use Rattle.sound.specs.Effects.{root_head, fresh}
use Rattle.sound.proofs.Charges.{charge_free, charge_stranger}
use Rattle.sound.proofs.Climbing.{up_shift}
use Rattle.sound.proofs.Kept.{gone}
use Rattle.sound.proofs.NewRecords.{view_made}
use Rattle.sound.proofs.Fresh.{fresh-version, count, root, root-current, view_root, view_rest, sound-fresh}
use Rattle.fcp.proofs.Sizes.{file-fits}
use Rattle.referred.proofs.Ticket.{own-rule}
use Rattle.judge_target.specs.Target.{form_at, rule_at, allowed_at}
use Rattle.judge_target.proofs.FromSound.{judgeable}
use Rattle.card.proofs.Steps.{cond_by}
use Rattle.sound.proofs.FullTable.{root-above}
use Rattle.recreation.specs.Recreation.{right_of, Welcomes, allowing, WelcomeSomewhere}

all-formed : well_formed compact allowing ≡ true
unfolding malformed_at next_of some_group compact_formed well_formed
all-formed = refl

all-fits : (v : ℕ) → known_version v ≡ true → fits_record v compact allowing ≡ true
all-fits v known = (fits-says v compact allowing).1 (record {
  some = omega arith;
  short = omega (arith, longest_least v known);
  known = known-form v known;
  formed = all-formed;
})

all_grants : (x : Sets) (r : List ℕ) → granted_of compact allowing (right_of r) x ≡ true
unfolding any_below count_below holds_of sc_at slots_of next_of group_length some_group holds_at allows_of compact_grants granted_of
all_grants x r =
    cond_by (λ (right : Right). granted_of compact allowing right x ≡ true) (eqb (kind_of r) df) CreateDf CreateEf (λ q. refl) (λ q. refl)

-- a fresh card of a version with that rule
module _ (v n total : ℕ) (known : known_version v ≡ true) (least : 2 ≤ n) (most : n ≤ 1023) (some : 1 ≤ total)
    (within : total ≤ 64 * (n - 1)) where
  card : List ℕ
  card = fresh v n total compact allowing

  whole : Sound card
  unfolding card
  whole = sound-fresh v n total compact allowing least most some within (all-fits v known)

  slots : count_of card ≡ n
  unfolding card
  slots = count v n total compact allowing least most some within (all-fits v known)

  -- its root's record, and no other
  at_root : view_at card 0 ≡ view_made (root_head total compact) []
  unfolding card
  at_root = view_root v n total compact allowing least most some within (all-fits v known)

  free : (t : ℕ) → t < n → (t ≡ 0 → ⊥) → view_at card t ≡ gone
  unfolding card
  free = view_rest v n total compact allowing least most some within (all-fits v known)

  here : current_df_of card ≡ 0
  unfolding card
  here = root-current v n total compact allowing least most some within (all-fits v known)

  its_root : rec_at card 0 ≡ record_bytes v (root_head total compact) [] allowing
  unfolding card
  its_root = root v n total compact allowing least most some within (all-fits v known)

  nobody : (t : ℕ) → t < n → File (view_at card) t → ⊥
  nobody t l f = f.0 (ap (λ (x : View). x.kind) (free t l f.1))

  -- it is empty, so its room is its total
  all_room : room_for n (view_at card) 0 ≡ total
  unfolding room_for total_for charged
  all_room =
      let none = sum-none n (λ t. charge_of 0 t (view_at card t))
      (λ t l. ⊎_elim (λ e. charge_stranger 0 t (view_at card t) (λ u z w. z e))
      (λ z. charge_free 0 t (view_at card t) (ap (λ (x : View). x.kind) (free t l z))) (same_or t 0))
      in
      omega (arith, none, ap (λ (x : View). x.size) at_root)

  nameless : (t : ℕ) → t < n → (view_at card t).name ≡ []
  nameless t l = ⊎_elim
      (λ e. ap (λ (x : ℕ). (view_at card x).name) e ∙ ap (λ (x : View). x.name) at_root)
      (λ z. ap (λ (x : View). x.name) (free t l z))
      (same_or t 0)

  -- the pool is as long as its total
  total_is : pool_length card ≡ total
  total_is = ap (λ (x : View). x.size) at_root

  -- its rule stands in the root's own record
  compact-root : form_of (rec_at card 0) ≡ compact
  compact-root = ap form_of its_root ∙ form-made v (root_head total compact) [] allowing

  root-form : form_at card 0 ≡ compact
  unfolding asked_as
  root-form = ap asked_as compact-root

  root-rule : (bodies : List ℕ) → rule_at card bodies 0 ≡ allowing
  root-rule bodies =
      (own-rule (count_of card) card bodies 0 (λ e. omega (arith, e, compact-root))).1
      (omega (arith, whole.header.long, whole.header.least), omega arith)
      ((judgeable card whole).ruled 0 (omega (arith, whole.header.least)))
      ∙ ap rule_of its_root ∙ rule-made v (root_head total compact) [] allowing (omega arith)

  welcomes : (img bodies r : List ℕ) (x : Sets) → version_of img ≡ v → (identifier_of r ≡ 0x3F00 → ⊥) → size_of r + 64 ≤ total
      → length bodies ≡ total → Welcomes img card bodies r (record { sets = x; channels = 0 })
  unfolding card allowed_at up
  welcomes img bodies r x same other fits long = record {
    version = fresh-version v n total compact allowing least most some within (all-fits v known) ∙ sym same;
    alone = refl;
    pool-fits = λ h. long ∙ sym total_is;
    empty = λ t l f p. nobody t (rw slots at l) f;
    active = rw here (ap life_of (ap life_cycle_of its_root ∙ life-made v (root_head total compact) [] allowing) ∙ activated_is);
    above = λ k a b. absurd (omega (arith, a, b, level));
    right = rw (here, root-form, root-rule bodies) (all_grants x r);
    room = rw (here, slots) (omega (arith, all_room, fits));
    identifier = λ k l e. other
        (sym e ∙ ap (λ (j : ℕ). (view_at card (up (view_at card) j (current_df_of card))).identifier) (none_above k l)
        ∙ root-named);
    name = λ z t l e. z (sym e ∙ nameless t (rw slots at l));
  }
    where
      level : (view_at card (current_df_of card)).level ≡ 0
      level = ap (λ (d : ℕ). (view_at card d).level) here ∙ ap (λ (x : View). x.level) at_root

      none_above : (k : ℕ) → k ≤ (view_at card (current_df_of card)).level → k ≡ 0
      none_above k l = omega (arith, l, level)

      root-named : (view_at card (current_df_of card)).identifier ≡ 0x3F00
      root-named = ap (λ (d : ℕ). (view_at card d).identifier) here ∙ ap (λ (x : View). x.identifier) at_root

-- no file but the root has its identifier
not_3f00 : (img : List ℕ) → Sound img → (s : ℕ) → s < count_of img → File (view_at img) s → identifier_of (rec_at img s) ≡ 0x3F00 → ⊥
unfolding up
not_3f00 img sound s low file e =
    sound.kin.above s low file (view_at img (view_at img s).parent).level (omega (arith, placed.up))
    (ap (λ (x : ℕ). (view_at img x).identifier) top ∙ sound.kin.root-identifier ∙ sym e)
  where
    dir : ℕ
    dir = (view_at img s).parent

    placed : Placed (count_of img) (view_at img) s
    placed = sound.kin.placed s low file

    top : up (view_at img) (suc (view_at img dir).level) s ≡ 0
    top =
        sym (up_shift (view_at img) (view_at img dir).level s)
        ∙ root-above (count_of img) (view_at img) sound.kin (omega (arith, sound.header.least)) dir placed.low
        (λ q. omega (arith, q, placed.dir))

pub welcome_somewhere : WelcomeSomewhere
unfolding card
welcome_somewhere img s x bodies sound low used z long = (
  whole (version_of img) 1023 65408 sound.header.version (omega arith) (omega arith) (omega arith) (omega arith),
  welcomes (version_of img) 1023 65408 sound.header.version (omega arith) (omega arith) (omega arith) (omega arith) img bodies
      (rec_at img s) x refl (not_3f00 img sound s low (used, z)) (file-fits img sound s low used z) long,
)
