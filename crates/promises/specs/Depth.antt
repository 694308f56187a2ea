-- The pattern reader's bound on depth does not matter where it is at least the number of words: what is read and the place of a fault are the same.
use Prim.Native.Nat.{ℕ, zero, suc, ◌≤◌}
use Rattle.std.proofs.Common.{arith, le_of_suc-le-suc, not-suc-le-zero, le_trans, le_refl, ap, ◌∙◌, length-append}
use Rattle.std.specs.Prelude.{◌≡◌, refl, List, [], ◌∷◌, length, ℤ}
use Rattle.std.proofs.Math.Option.{Option, none, some}
use Rattle.rules.specs.Forms.{Pattern, no_patterns, ◌▸ᵖ◌}
use Rattle.rules.specs.Reading.{Verdict, ok, fault, ◌then◌, Got, Reader, give, ◌>>=◌, known, entry, times, width}
use Rattle.rules.specs.Reading.{PatternTag, alone, operand, operands, inner, parts, wide, pattern_tags, pattern_parts, pattern}
use Rattle.forms.specs.Readers.{Sound, bind_ok, known_ok}
use Rattle.forms.specs.ReadPattern.{pattern_sound}

-- What is left is no longer than what there was.
Shorter : {A : Type 0} → Reader A → Type 0
Shorter {A} r = (at : ℕ) (ws : List ℤ) (g : Got A) → r at ws ≡ ok g → length g.rest ≤ length ws

pattern_shorter : (n : ℕ) → Shorter (pattern n)
unfolding Shorter Sound
pattern_shorter n at ws g e = omega (arith, simp length-append at (ap length (pattern_sound n at ws g e).0))

give_shorter : {A : Type 0} (a : A) → Shorter (give a)
unfolding Shorter give
give_shorter a at ws g e = let q : ws ≡ g.rest = cc in omega (arith, ap length q)

known_shorter : {A : Type 0} (f : ℤ → Option A) → Shorter (known f)
unfolding Shorter
known_shorter f at ws g e = omega (arith, ap length (known_ok f at ws g e).1)

bind_shorter : {A B : Type 0} (r : Reader A) (k : A → Reader B) → Shorter r → ((a : A) → Shorter (k a)) → Shorter (r >>= k)
unfolding Shorter
bind_shorter r k f h at ws g e =
    let b = bind_ok r k at ws g e in le_trans (h b.0.it b.0.next b.0.rest g b.2) (f at ws b.0 b.1)

-- Two readers that agree on no more than n words.
Agree : {A : Type 0} → ℕ → Reader A → Reader A → Type 0
Agree n r s = (at : ℕ) (ws : List ℤ) → length ws ≤ n → r at ws ≡ s at ws

bind_agree : {A B : Type 0} (n : ℕ) (r s : Reader A) (k l : A → Reader B) → Shorter r → Agree n r s
    → ((a : A) → Agree n (k a) (l a)) → Agree n (r >>= k) (s >>= l)
unfolding Agree Shorter ◌>>=◌
bind_agree {A} {B} n r s k l f h j at ws i = go (r at ws) (λ g e. f at ws g e) ∙ ap (λ x. x then λ g. l g.it g.next g.rest) (h at ws i)
  where
    go : (x : Verdict (Got A)) → ((g : Got A) → x ≡ ok g → length g.rest ≤ length ws)
        → (x then λ g. k g.it g.next g.rest) ≡ (x then λ g. l g.it g.next g.rest)
    go (ok g) q = j g.it g.next g.rest (le_trans (q g refl) i)
    go (fault p) q = refl

same_agree : {A : Type 0} (n : ℕ) (r : Reader A) → Agree n r r
unfolding Agree
same_agree n r at ws i = refl

-- So many forms, one after the other.
module _ {A As : Type 0} (no : As) (more : A → As → As) where
  times_shorter : (r : Reader A) → Shorter r → (k : ℕ) → Shorter (times no more r k)
  unfolding times
  times_shorter r f zero = give_shorter no
  times_shorter r f (suc k) = bind_shorter r _ f (λ a. bind_shorter (times no more r k) _ (times_shorter r f k) (λ l. give_shorter (more a l)))

  times_agree : (n : ℕ) (r s : Reader A) → Shorter r → Agree n r s → (k : ℕ) → Agree n (times no more r k) (times no more s k)
  unfolding times
  times_agree n r s f h zero = same_agree n (give no)
  times_agree n r s f h (suc k) = bind_agree n r s _ _ f h (λ a. bind_agree n (times no more r k) (times no more s k) _ _
      (times_shorter r f k) (times_agree n r s f h k) (λ l. same_agree n (give (more a l))))

parts_agree : (n : ℕ) (r s : Reader Pattern) → Shorter r → Agree n r s → (t : PatternTag) → Agree n (pattern_parts r t) (pattern_parts s t)
unfolding pattern_parts
parts_agree n r s f h (alone p) = same_agree n (give p)
parts_agree n r s f h (operand k) = same_agree n (pattern_parts r (operand k))
parts_agree n r s f h (operands k) = same_agree n (pattern_parts r (operands k))
parts_agree n r s f h (inner k) = bind_agree n r s _ _ f h (λ p. same_agree n (give (k p)))
parts_agree n r s f h (parts k) = bind_agree n r s _ _ f h (λ p. bind_agree n r s _ _ f h (λ q. same_agree n (give (k p q))))
parts_agree n r s f h (wide k) = bind_agree n (known width) (known width) _ _ (known_shorter width) (same_agree n (known width))
    (λ i. bind_agree n (times no_patterns ◌▸ᵖ◌ r i) (times no_patterns ◌▸ᵖ◌ s i) _ _
    (times_shorter no_patterns ◌▸ᵖ◌ r f i) (times_agree no_patterns ◌▸ᵖ◌ n r s f h i) (λ ps. same_agree n (give (k ps))))

known_agree : {A B : Type 0} (f : ℤ → Option A) (k l : A → Reader B) (at : ℕ) (w : ℤ) (ws : List ℤ) → ((a : A) → k a (suc at) ws ≡ l a (suc at) ws)
    → (known f >>= k) at (w ∷ ws) ≡ (known f >>= l) at (w ∷ ws)
unfolding known ◌>>=◌
known_agree {A} {B} f k l at w ws h = go (f w)
  where
    read : Option A → Verdict (Got A)
    read o = elim o [ none ↦ fault at | some a ↦ ok (record { it = a; next = suc at; rest = ws }) ]

    go : (o : Option A) → (read o then λ g. k g.it g.next g.rest) ≡ (read o then λ g. l g.it g.next g.rest)
    go none = refl
    go (some a) = h a

pub depth_free : (n k at : ℕ) (ws : List ℤ) → length ws ≤ n → length ws ≤ k → pattern n at ws ≡ pattern k at ws
unfolding pattern Agree
depth_free zero zero at ws i j = refl
depth_free zero (suc k) at [] i j = refl
depth_free zero (suc k) at (w ∷ ws) i j = absurd (not-suc-le-zero i)
depth_free (suc n) zero at [] i j = refl
depth_free (suc n) zero at (w ∷ ws) i j = absurd (not-suc-le-zero j)
depth_free (suc n) (suc k) at [] i j = refl
depth_free (suc n) (suc k) at (w ∷ ws) i j = known_agree (entry pattern_tags) _ _ at w ws (λ t.
    parts_agree (length ws) (λ a us. pattern n a us) (λ a us. pattern k a us) (pattern_shorter n)
    (λ a us q. depth_free n k a us (le_trans q (le_of_suc-le-suc i)) (le_trans q (le_of_suc-le-suc j))) t (suc at) ws (le_refl (length ws)))
