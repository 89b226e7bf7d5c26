-- What a command did to the table, by what the ledger heard of it: one file more; a file and all beneath it gone; or
-- nothing. Where ledger and records agreed before it, they agree after it.
use mathlib.Core.Path.{◌≡◌, refl, sym, ap, ◌∙◌}
use mathlib.Core.Bool.{Bool, true, false, not, cond}
use Prim.Native.Nat.{ℕ, ◌<◌}
use native.Mathlib.Omega.{arith}
use Rattle.std.specs.Prelude.{Some}
use Rattle.laws.specs.Walks.{if_so}
use Rattle.laws.proofs.Sums.{sum_cong, sum_change}
use Rattle.rules.specs.Descriptor.{df, ef}
use Rattle.sound.specs.Table.{View, File}
use Rattle.sound.specs.Kin.{Kin}
use Rattle.sound.specs.Kinship.{at_or_beneath, free_slot}
use Rattle.sound.proofs.Kept.{gone}
use Rattle.history.specs.Ledger.{Entry, Ledger, Announced, makes, deletes, neither, entered, sum_over, goes_with}
use Rattle.history.proofs.Entries.{sum-keep}
use Rattle.history.proofs.Agree.{Agrees, entry_of, worth, sum_files, worth_file, worth_free, worth_root, slot_cases}
use Rattle.history.proofs.Upward.{goes_same, root_stays}

-- v is the table before, w the table after; `before` and `after` are the current directories
pub record OneMore (n : ℕ) (v w : ℕ → View) (x z : ℕ) (is_df : Bool) (before after : ℕ) : Type 0 where
  pub slot : ℕ
  pub low : slot < n
  pub free : (v slot).kind ≡ 0
  pub lowest : free_slot n v ≡ Some slot
  pub other : slot ≡ 0 → ⊥
  pub kind : (w slot).kind ≡ cond is_df df ef
  pub parent : (w slot).parent ≡ before
  pub identifier : (w slot).identifier ≡ x
  pub size : (w slot).size ≡ z
  pub own : is_df ≡ true → after ≡ slot
  pub rest : (t : ℕ) → t < n → (t ≡ slot → ⊥) → w t ≡ v t

pub record AllBeneathGone (n : ℕ) (v w : ℕ → View) (x before after : ℕ) : Type 0 where
  pub slot : ℕ
  pub low : slot < n
  pub file : File v slot
  pub parent : (v slot).parent ≡ before
  pub identifier : (v slot).identifier ≡ x
  pub current : after ≡ before
  pub rest : (t : ℕ) → t < n → w t ≡ cond (at_or_beneath v slot t) gone (v t)

abbrev pub Did : ℕ → (ℕ → View) → (ℕ → View) → Announced → ℕ → ℕ → Type 0
Did n v w (makes x size is_df) before after = OneMore n v w x size is_df before after
Did n v w (deletes x) before after = AllBeneathGone n v w x before after
Did n v w neither before after = (t : ℕ) → t < n → w t ≡ v t

-- a record that becomes free, if b: what is left of its worth
worth_cut : (f : Entry → ℕ) (p : Entry → Bool) (s : ℕ) (x : View) (b : Bool) → ((x.kind ≡ 0 → ⊥) → (s ≡ 0 → ⊥) → p (entry_of s x) ≡ b)
    → worth (λ e. if_so (not (p e)) (f e)) s x ≡ worth f s (cond b gone x)
worth_cut f p s x b h = slot_cases (worth (λ e. if_so (not (p e)) (f e)) s x ≡ worth f s (cond b gone x)) s x
    (λ e. worth_root (λ y. if_so (not (p y)) (f y)) s x e ∙ sym (worth_root f s (cond b gone x) e))
    (λ e. worth_free (λ y. if_so (not (p y)) (f y)) s x e ∙ sym (worth_free f s (cond b gone x) (nothing b e)))
    (λ u z. worth_file (λ y. if_so (not (p y)) (f y)) s x u z ∙ rw (h u z) (left b u z))
  where
    nothing : (c : Bool) → x.kind ≡ 0 → (cond c gone x).kind ≡ 0
    nothing true e = refl
    nothing false e = e

    left : (c : Bool) → (x.kind ≡ 0 → ⊥) → (s ≡ 0 → ⊥) → if_so (not c) (f (entry_of s x)) ≡ worth f s (cond c gone x)
    left true u z = sym (worth_free f s gone refl)
    left false u z = sym (worth_file f s x u z)

module _ (l : Ledger) (n : ℕ) (v w : ℕ → View) (ok : Agrees l n v) (kin : Kin n v) (some : 0 < n) where
  agree_same : ((t : ℕ) → t < n → w t ≡ v t) → Agrees l n w
  unfolding sum_files
  agree_same h = record {
    total = ok.total ∙ ap (λ (x : View). x.size) (sym (h 0 some));
    each = λ f. ok.each f ∙ sum_cong n (λ s. worth f s (v s)) (λ s. worth f s (w s)) (λ s k. ap (worth f s) (sym (h s k)));
  }

  agree_more : (x size : ℕ) (is_df : Bool) (before after : ℕ) → OneMore n v w x size is_df before after
      → Agrees (entered l (makes x size is_df) before after) n w
  unfolding entered sum_files sum_over
  agree_more x size is_df before after c = record {
    total = ok.total ∙ ap (λ (y : View). y.size) (sym (c.rest 0 some (λ e. c.other (sym e))));
    each = λ f.
        let e = sum_change n (λ s. worth f s (w s)) (λ s. worth f s (v s)) c.slot c.low (λ t h o. ap (worth f t) (c.rest t h o)) in
        let a = worth_free f c.slot (v c.slot) c.free in
        let b = worth_file f c.slot (w c.slot) (used is_df c.kind) c.other ∙ ap f (spelt is_df refl) in
        omega (arith, e, a, b, ok.each f);
  }
    where
      spelt : (b : Bool) → is_df ≡ b
          → entry_of c.slot (w c.slot) ≡ record { dir = before; identifier = x; size = size; own = cond b after 0 }
      spelt true e = rw (c.kind, e, c.parent, c.identifier, c.size, c.own e)
      spelt false e = rw (c.kind, e, c.parent, c.identifier, c.size)

      used : (b : Bool) → (w c.slot).kind ≡ cond b df ef → (w c.slot).kind ≡ 0 → ⊥
      used true e z = omega arith
      used false e z = omega arith

  agree_gone : (x before after : ℕ) → AllBeneathGone n v w x before after → Agrees (entered l (deletes x) before after) n w
  unfolding entered sum_files
  agree_gone x before after c = record {
    total = ok.total ∙ ap (λ (y : View). y.size) (sym root_kept);
    each = λ f.
        sum-keep _ f l.files
        ∙ ok.each _
        ∙ sum_cong n _ (λ s. worth f s (w s))
        (λ s h. worth_cut f (goes_with l before x) s (v s) (at_or_beneath v c.slot s) (λ u z. goes s h (u, z))
        ∙ ap (worth f s) (sym (c.rest s h)));
  }
    where
      root_kept : w 0 ≡ v 0
      root_kept = c.rest 0 some ∙ rw (root_stays n v kin c.slot c.file.1)

      goes : (s : ℕ) → s < n → File v s → goes_with l before x (entry_of s (v s)) ≡ at_or_beneath v c.slot s
      goes s h u = rw (← c.parent, ← c.identifier) (goes_same l n v ok kin some c.slot c.low c.file s h u)

  pub agree_step : (a : Announced) (before after : ℕ) → Did n v w a before after → Agrees (entered l a before after) n w
  agree_step (makes x size is_df) before after c = agree_more x size is_df before after c
  agree_step (deletes x) before after c = agree_gone x before after c
  agree_step neither before after c = unfold entered in agree_same c
