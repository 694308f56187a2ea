-- Elements paired off with those of another collection, as a relation: over an equality that is symmetric and transitive so is the pairing, and it does
-- not matter which of two equal elements is taken.
use Rattle.std.specs.Prelude.{◌≡◌, refl, ◌⊎◌, Bool, T}
use Rattle.std.proofs.Common.{sym, ap, ◌∙◌, subst, inl, inr, ⊎_elim}
use Rattle.rules.specs.Forms.{Value, Values, empty, ◌▸◌}

-- `Ins x us ws`: ws is us with x put in at some place.
abbrev pub Ins : Value → Values → Values → Type 0
Ins x us empty = ⊥
Ins x us (w ▸ ws) = ((x ≡ w) × (us ≡ ws)) ⊎ ((vs : Values) × (us ≡ w ▸ vs) × Ins x vs ws)

-- Two elements taken out of one list: at one place, or at two.
apart : (ws : Values) (u x : Value) (us xs : Values) → Ins u us ws → Ins x xs ws → ((u ≡ x) × (us ≡ xs)) ⊎ ((ys : Values) × Ins x ys us × Ins u ys xs)
apart empty u x us xs i j = absurd i
apart (w ▸ ws) u x us xs (inl i) (inl j) = inl (i.0 ∙ sym j.0, i.1 ∙ sym j.1)
apart (w ▸ ws) u x us xs (inl i) (inr j) = inr (j.0, subst (λ z. Ins x j.0 z) (sym i.1) j.2, subst (λ z. Ins u j.0 z) (sym j.1) (inl (i.0, refl)))
apart (w ▸ ws) u x us xs (inr i) (inl j) = inr (i.0, subst (λ z. Ins x i.0 z) (sym i.1) (inl (j.0, refl)), subst (λ z. Ins u i.0 z) (sym j.1) i.2)
apart (w ▸ ws) u x us xs (inr i) (inr j) = ⊎_elim
    (λ e. inl (e.0, i.1 ∙ ap (λ z. w ▸ z) e.1 ∙ sym j.1))
    (λ e. inr (w ▸ e.0, subst (λ z. Ins x (w ▸ e.0) z) (sym i.1) (inr (e.0, refl, e.1)), subst (λ z. Ins u (w ▸ e.0) z) (sym j.1) (inr (e.0, refl, e.2))))
    (apart ws u x i.0 j.0 i.2 j.2)

-- Two elements put in, in the other order.
swapped : (us : Values) (x w : Value) (ys zs : Values) → Ins x ys zs → Ins w zs us → (vs : Values) × Ins w ys vs × Ins x vs us
swapped empty x w ys zs i j = absurd j
swapped (u ▸ us) x w ys zs i (inl j) = (u ▸ ys, inl (j.0, refl), inr (ys, refl, subst (λ z. Ins x ys z) j.1 i))
swapped (u ▸ us) x w ys zs i (inr j) = go (λ as' bs k l. swapped us x w as' bs k l) (subst (λ z. Ins x ys z) j.1 i)
  where
    go : ((ys zs : Values) → Ins x ys zs → Ins w zs us → (vs : Values) × Ins w ys vs × Ins x vs us) → Ins x ys (u ▸ j.0)
        → (vs : Values) × Ins w ys vs × Ins x vs (u ▸ us)
    go rec (inl k) = (us, subst (λ z. Ins w z us) (sym k.1) j.2, inl (k.0, refl))
    go rec (inr k) =
        let r = rec k.0 j.0 k.2 j.2 in
        (u ▸ r.0, subst (λ z. Ins w z (u ▸ r.0)) (sym k.1) (inr (k.0, refl, r.1)), inr (r.0, refl, r.2))

-- ---- Pairings, over an equality E that is symmetric and transitive.

abbrev pub Paired : (Value → Value → Bool) → Values → Values → Type 0
Paired E empty empty = Unit {0}
Paired E empty (w ▸ ws) = ⊥
Paired E (v ▸ vs) ws = (w : Value) × (us : Values) × T (E v w) × Ins w us ws × Paired E vs us

pub record Equiv {A : Type 0} (E : A → A → Bool) : Type 0 where
  pub symm : (a b : A) → T (E a b) → T (E b a)
  pub tran : (a b c : A) → T (E a b) → T (E b c) → T (E a c)

module _ (E : Value → Value → Bool) (eq : Equiv E) where
  -- What is paired off stays so if an element of the right side gives way to an equal one at another place.
  replace : (vs : Values) (u w : Value) (ws zs us : Values) → Paired E vs ws → Ins u zs ws → T (E u w) → Ins w zs us → Paired E vs us
  replace empty u w empty zs us p i e j = absurd i
  replace empty u w (x ▸ ws) zs us p i e j = absurd p
  replace (v ▸ vs) u w ws zs us p i e j = ⊎_elim
      (λ k. (w, zs, eq.tran v u w (subst (λ z. T (E v z)) (sym k.0) p.2) e, j, subst (λ z. Paired E vs z) (sym k.1) p.4))
      (λ k. let r = swapped us p.0 w k.0 zs k.1 j in
      (p.0, r.0, p.2, r.2, replace vs u w p.1 k.0 r.0 p.4 k.2 e r.1))
      (apart ws u p.0 zs p.1 i p.3)

  -- It does not matter which of two equal elements is taken out.
  pub exchange : (vs : Values) (w u : Value) (ws us zs : Values) → Paired E vs ws → Ins w ws zs → Ins u us zs → T (E u w) → Paired E vs us
  exchange vs w u ws us zs p i j e = ⊎_elim
      (λ k. subst (λ z. Paired E vs z) k.1 p)
      (λ k. replace vs u w ws k.0 us p k.1 e k.2)
      (apart zs w u ws us i j)

  -- An element on each side.
  more : (ws : Values) (w v : Value) (ws' vs us : Values) → Ins w ws' ws → Ins v vs us → T (E w v) → Paired E ws' vs → Paired E ws us
  more empty w v ws' vs us i j e p = absurd i
  more (y ▸ ws) w v ws' vs us (inl i) j e p =
      (v, vs, subst (λ z. T (E z v)) i.0 e, j, subst (λ z. Paired E z vs) i.1 p)
  more (y ▸ ws) w v ws' vs us (inr i) j e p =
      let q = subst (λ z. Paired E z vs) i.1 p in
      let r = swapped us q.0 v q.1 vs q.3 j in
      (q.0, r.0, q.2, r.2, more ws w v i.0 q.1 r.0 i.2 r.1 e q.4)

  pub paired_symm : (vs ws : Values) → Paired E vs ws → Paired E ws vs
  paired_symm empty empty p = tt
  paired_symm empty (w ▸ ws) p = absurd p
  paired_symm (v ▸ vs) ws p = more ws p.0 v p.1 vs (v ▸ vs) p.3 (inl (refl, refl)) (eq.symm v p.0 p.2) (paired_symm vs p.1 p.4)

  -- An element of the left side with its partner, taken out.
  pub less : (vs : Values) (v : Value) (us ws : Values) → Ins v us vs → Paired E vs ws → (w : Value) × (xs : Values) × T (E v w) × Ins w xs ws × Paired E us xs
  less empty v us ws i p = absurd i
  less (y ▸ vs) v us ws (inl i) p = (p.0, p.1, subst (λ z. T (E z p.0)) (sym i.0) p.2, p.3, subst (λ z. Paired E z p.1) (sym i.1) p.4)
  less (y ▸ vs) v us ws (inr i) p =
      let r = less vs v i.0 p.1 i.2 p.4 in
      let k = swapped ws r.0 p.0 r.1 p.1 r.3 p.3 in
      (r.0, k.0, r.2, k.2, subst (λ z. Paired E z k.0) (sym i.1) (p.0, r.1, p.2, k.1, r.4))

  pub paired_tran : (us vs ws : Values) → Paired E us vs → Paired E vs ws → Paired E us ws
  paired_tran empty empty ws p q = q
  paired_tran empty (v ▸ vs) ws p q = absurd p
  paired_tran (u ▸ us) vs ws p q =
      let r = less vs p.0 p.1 ws p.3 q in
      (r.0, r.1, eq.tran u p.0 r.0 p.2 r.2, r.3, paired_tran us p.1 r.1 p.4 r.4)
