-- Laws of what specs/Wrong.antt defines.
use Rattle.std.specs.Prelude.{ℕ, suc, ◌+◌, ◌≤◌, ◌≡◌, refl, List, [], ◌∷◌, ◌++◌, length, take, ℤ, pos}
use Rattle.std.proofs.Common.{arith, sym, ap, ◌∙◌, subst, length-append}
use Rattle.std.proofs.Math.Seq.{take-append_seam}
use Rattle.rules.specs.Forms.{words}
use Rattle.rules.specs.Reading.{read_target}
use Rattle.rules.specs.Causes.{Cause, too_deep}
use Rattle.forms.proofs.ReadTarget.{target_read}
use Rattle.forms.specs.Wrong.{After, At, Awaits, Says, Spot, Wrong, deep_collection, deep_tuple, early, long, no_count, no_integer, no_tag, no_width, not_count, not_tag, not_width, over}

behind : (front rest : List ℤ) (k : ℕ) (w : ℤ) → At rest k w → At (front ++ rest) (length front + k) w
behind [] rest k w e = let n : 0 + k ≡ k = omega arith in rw n e
behind (x ∷ front) rest k w e = let n : suc (length front) + k ≡ suc (length front + k) = omega arith in rw n (behind front rest k w e)

there : {ts : List ℤ} (front rest : List ℤ) (k : ℕ) (w : ℤ) → ts ≡ front ++ rest → At rest k w → At ts (length front + k) w
there front rest k w e h = rw e (behind front rest k w h)

deep_says : {ts : List ℤ} (front us : List ℤ) (t : ℕ) → 1 ≤ t → t ≤ 2 → ts ≡ front ++ (pos t ∷ us) → Awaits 8 0 front → Says ts (length front + 0) too_deep
unfolding Says
deep_says {ts} front us t a b e w =
    let n : length front ≡ length front + 0 = omega arith in
    let p = sym (take-append_seam front (pos t ∷ us)) ∙ ap (take (length front)) (sym e) ∙ ap (λ k. take k ts) n in
    (t, a, b, there front (pos t ∷ us) 0 (pos t) e refl, subst (Awaits 8 0) p w)

spot_says : {ts rest : List ℤ} {l k : ℕ} {c : Cause} (front : List ℤ) → ts ≡ front ++ rest → Awaits 8 l front → Spot l rest k c → Says ts (length front + k) c
unfolding Says After
spot_says front e a (not_tag {w = w} {us = us} out) = (w, there front (w ∷ us) 0 w e refl, out)
spot_says front e a (not_count {w = w} {us = us} out) =
    (length front + 0, w, omega arith, there front (pos 1 ∷ w ∷ us) 0 (pos 1) e refl, there front (pos 1 ∷ w ∷ us) 1 w e refl, out)
spot_says front e a (deep_collection {us = us}) = deep_says front us 1 (omega arith) (omega arith) e a
spot_says front e a (deep_tuple {us = us}) = deep_says front us 2 (omega arith) (omega arith) e a
spot_says front e a no_tag = omega (arith, ap length e, length-append front [])
spot_says front e a no_integer = omega (arith, ap length e, length-append front (pos 0 ∷ []))
spot_says front e a no_count = omega (arith, ap length e, length-append front (pos 1 ∷ []))
spot_says front e a no_width = omega (arith, ap length e, length-append front (pos 2 ∷ []))
spot_says front e a (not_width {w = w} {us = us} out) =
    (length front + 0, w, omega arith, there front (pos 2 ∷ w ∷ us) 0 (pos 2) e refl, there front (pos 2 ∷ w ∷ us) 1 w e refl, out)

pub wrong_says : {ts : List ℤ} {i : ℕ} {c : Cause} → Wrong ts i c → Says ts i c
unfolding Says
wrong_says (long h) = (refl, h)
wrong_says (early h front rest e a s) = spot_says front e a s
wrong_says {ts} (over h v w us k e) =
    let l = length-append (words v) (w ∷ us) in
    let n = ap length e in
    let t : take (length (words v)) ts ≡ words v = ap (take (length (words v))) e ∙ take-append_seam (words v) (w ∷ us) in
    (omega (arith, l, n), v, ap read_target t ∙ (target_read (words v) v).1 (refl, omega (arith, l, n, h), k.1, k.0, k.2))
