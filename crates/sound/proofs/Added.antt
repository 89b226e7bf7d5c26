-- What is kept between records when a free one becomes a file that fits: what CREATE does.
use mathlib.Core.Path.{◌≡◌, refl, sym, ap, ◌∙◌}
use mathlib.Core.List.{[]}
use mathlib.Core.Logic.{◌⊎◌, inl, inr}
use Prim.Native.Nat.{ℕ, zero, suc, ◌+◌, ◌<◌, ◌≤◌}
use native.Mathlib.Omega.{arith}
use Rattle.laws.proofs.Sums.{sum_change}
use Rattle.laws.proofs.Says.{same_or}
use Rattle.sound.specs.Table.{View, File, up, charge_of, charged}
use Rattle.sound.specs.Kin.{Placed, Kin}
use Rattle.sound.proofs.Climbing.{reached}
use Rattle.sound.proofs.Charges.{charge_free, charge_child, charge_stranger, charged-none}

-- the checks of CREATE that look at other records: x is what the new record says, d the current directory's slot
pub record Fits (n : ℕ) (v : ℕ → View) (d : ℕ) (x : View) : Type 0 where
  pub low : d < n
  pub dir : (v d).kind ≡ 1
  pub used : x.kind ≡ 0 → ⊥
  pub parent : x.parent ≡ d
  pub level : x.level ≡ (v d).level + 1
  -- not a sibling's identifier
  pub fresh : (t : ℕ) → t < n → File v t → (v t).parent ≡ d → (v t).identifier ≡ x.identifier → ⊥
  -- not the current directory's, nor one's above it
  pub above : (k : ℕ) → k ≤ (v d).level → (v (up v k d)).identifier ≡ x.identifier → ⊥
  -- not a name on the card
  pub name : (x.name ≡ [] → ⊥) → (t : ℕ) → t < n → (v t).name ≡ x.name → ⊥
  -- there is room
  pub room : charged n v d + (x.size + 64) ≤ (v d).size

module _ (n : ℕ) (a b : ℕ → View) (kin : Kin n a) (s d : ℕ)
    (low : s < n)
    (free : (a s).kind ≡ 0)
    (other : (t : ℕ) → t < n → (t ≡ s → ⊥) → b t ≡ a t)
    (fits : Fits n a d (b s)) where
  -- a used record is not the new one
  old : (t : ℕ) → ((a t).kind ≡ 0 → ⊥) → t ≡ s → ⊥
  old t u e = u (ap (λ (x : ℕ). (a x).kind) e ∙ free)

  used : (t : ℕ) → t < n → ((a t).kind ≡ 0 → ⊥) → b t ≡ a t
  used t l u = other t l (old t u)

  root : b 0 ≡ a 0
  root = used 0 (omega arith) (λ e. omega (arith, kin.root-kind))

  new : s ≡ 0 → ⊥
  new e = old 0 (λ z. omega (arith, kin.root-kind)) (sym e)

  was : (t : ℕ) → t < n → File b t → (t ≡ s → ⊥) → File a t
  was t l f z = (λ e. f.0 (ap (λ (x : View). x.kind) (other t l z) ∙ e), f.1)

  -- the way up from a used record, and from the new one
  way : (t : ℕ) → t < n → ((a t).kind ≡ 0 → ⊥) → (k : ℕ) → k ≤ (a t).level → up b k t ≡ up a k t
  unfolding up
  way t l u zero h = refl
  way t l u (suc k) h =
      let r = reached n a kin t l u k (omega arith) in
      ap (λ (x : ℕ). (b x).parent) (way t l u k (omega arith)) ∙ ap (λ (x : View). x.parent) (used (up a k t) r.low r.used)

  here : (a d).kind ≡ 0 → ⊥
  here e = omega (arith, fits.dir)

  way_new : (k : ℕ) → k ≤ (a d).level → up b (suc k) s ≡ up a k d
  unfolding up
  way_new zero h = fits.parent
  way_new (suc k) h =
      let r = reached n a kin d fits.low here k (omega arith) in
      ap (λ (x : ℕ). (b x).parent) (way_new k (omega arith)) ∙ ap (λ (x : View). x.parent) (used (up a k d) r.low r.used)

  cost : (e : ℕ) → charged n b e ≡ charged n a e + charge_of e s (b s)
  unfolding charged
  cost e =
      let q = sum_change n (λ t. charge_of e t (b t)) (λ t. charge_of e t (a t)) s low (λ t l m. ap (charge_of e t) (other t l m)) in
      omega (arith, q, charge_free e s (a s) free)

  placed : (t : ℕ) → t < n → File b t → (t ≡ s) ⊎ (t ≡ s → ⊥) → Placed n b t
  placed t l f (inl e) =
      let q = used d fits.low here in
      let p : (b t).parent ≡ d = rw e fits.parent in
      record { low = rw p fits.low; dir = rw (p, q) fits.dir; up = rw (p, q, e) fits.level }
  placed t l f (inr z) =
      let p = kin.placed t l (was t l f z) in
      let q = used (a t).parent p.low (λ e. omega (arith, p.dir)) in
      record { low = rw (other t l z) p.low; dir = rw (other t l z, q) p.dir; up = rw (other t l z, q) p.up }

  siblings : (u : ℕ) → u < n → File b u → (t : ℕ) → t < u → File b t → (b t).parent ≡ (b u).parent → (b t).identifier ≡ (b u).identifier
      → (u ≡ s) ⊎ (u ≡ s → ⊥) → (t ≡ s) ⊎ (t ≡ s → ⊥) → ⊥
  siblings u l f t m g e i (inl p) (inl q) = omega arith
  siblings u l f t m g e i (inl p) (inr z) =
      let o = other t (omega arith) z in
      fits.fresh t (omega arith) (was t (omega arith) g z) (rw (o, p) at e ∙ fits.parent) (rw (o, p) at i)
  siblings u l f t m g e i (inr y) (inl q) =
      let o = other u l y in
      fits.fresh u l (was u l f y) (sym (rw (o, q) at e) ∙ fits.parent) (sym (rw (o, q) at i))
  siblings u l f t m g e i (inr y) (inr z) =
      let o = other u l y in
      let o' = other t (omega arith) z in
      kin.siblings u l (was u l f y) t m (was t (omega arith) g z) (rw (o, o') at e) (rw (o, o') at i)

  above : (t : ℕ) → t < n → File b t → (k : ℕ) → k < (b t).level → (b (up b (suc k) t)).identifier ≡ (b t).identifier → (t ≡ s) ⊎ (t ≡ s → ⊥)
      → ⊥
  above t l f k m i (inl e) =
      let h : k ≤ (a d).level = omega (arith, rw e at m, fits.level) in
      let r = reached n a kin d fits.low here k h in
      fits.above k h (rw (e, way_new k h, used (up a k d) r.low r.used) at i)
  above t l f k m i (inr z) =
      let g = was t l f z in
      let h : suc k ≤ (a t).level = rw (other t l z) at m in
      let r = reached n a kin t l g.0 (suc k) h in
      kin.above t l g k h (rw (way t l g.0 (suc k) h, used (up a (suc k) t) r.low r.used, other t l z) at i)

  names : (u : ℕ) → u < n → ((b u).name ≡ [] → ⊥) → (t : ℕ) → t < u → (b t).name ≡ (b u).name
      → (u ≡ s) ⊎ (u ≡ s → ⊥) → (t ≡ s) ⊎ (t ≡ s → ⊥) → ⊥
  names u l f t m e (inl p) (inl q) = omega arith
  names u l f t m e (inl p) (inr z) = fits.name (rw p at f) t (omega arith) (rw (other t (omega arith) z, p) at e)
  names u l f t m e (inr y) (inl q) =
      let g : (b s).name ≡ (b u).name = rw q at e in
      fits.name (λ x. f (sym g ∙ x)) u l (sym (rw (other u l y) at g))
  names u l f t m e (inr y) (inr z) =
      kin.names u l t m (rw (other u l y) at f, rw (other u l y, other t (omega arith) z) at e)

  charges : (e : ℕ) → e < n → (b e).kind ≡ 1 → (e ≡ s) ⊎ (e ≡ s → ⊥) → (e ≡ d) ⊎ (e ≡ d → ⊥) → charged n b e ≤ (b e).size
  charges e l h (inl p) q =
      let c = charged-none n a kin s (λ z. omega arith) in
      let g = charge_stranger s s (b s) (λ u z w. old d here (sym fits.parent ∙ w)) in
      rw p (omega (arith, cost s))
  charges e l h (inr z) (inl q) =
      let g = charge_child d s (b s) fits.used new fits.parent in
      rw (q, used d fits.low here) (omega (arith, cost d, fits.room))
  charges e l h (inr z) (inr w) =
      let g = charge_stranger e s (b s) (λ u y p. w (sym p ∙ fits.parent)) in
      let o = other e l z in
      rw o (omega (arith, cost e, kin.charges e l (rw o at h)))

  pub kin_added : Kin n b
  kin_added = record {
    root-kind = rw root kin.root-kind;
    root-identifier = rw root kin.root-identifier;
    root-parent = rw root kin.root-parent;
    root-level = rw root kin.root-level;
    root-size = rw root kin.root-size;
    placed = λ t l f. placed t l f (same_or t s);
    siblings = λ u l f t m g e i. siblings u l f t m g e i (same_or u s) (same_or t s);
    above = λ t l f k m i. above t l f k m i (same_or t s);
    names = λ u l t m w. names u l w.0 t m w.1 (same_or u s) (same_or t s);
    charges = λ e l h. charges e l h (same_or e s) (same_or e d);
  }
