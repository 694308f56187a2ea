-- Laws of what specs/Room.antt defines.
use Rattle.std.specs.Prelude.{ℕ, ◌+◌, ◌*◌, ◌≤◌, ◌≡◌, refl, [], ◌∷◌, ◌++◌, map, length}
use Rattle.std.proofs.Common.{arith, le_refl, le_trans, mul-le-mul_right, zero-add, ap, ◌∙◌, subst, inl, inr, append-nil, length-append}
use mathlib.Core.List.Memᴰ
use Rattle.std.proofs.lemmas.List.{length-map}
use Rattle.rules.specs.Dialects.{Dialect}
use Rattle.rules.specs.Forms.{Matcher, Matchers, no_matchers, ◌▸ᵐ◌}
use Rattle.rules.specs.Forms.{Pattern, wildcard, nil, variable, constant, value, cons, join, tuple, both, either, never, Patterns, no_patterns, ◌▸ᵖ◌}
use Rattle.rules.specs.Forms.{Value, size, size_all}
use Rattle.rules.specs.Origins.{Valueᵒ, intᵒ, collectionᵒ, tupledᵒ, Valuesᵒ, emptyᵒ, ◌▸ᵒ◌, Bindings, plain, plain_all, target}
use Rattle.rules.specs.Rows.{Form, as_words, as_origins, told, row}
use Rattle.rules.specs.Fit.{element, members}
use Rattle.rules.specs.Search.{start}
use Rattle.rules.specs.Ways.{Way, Follows, FollowsAll}
use Rattle.rules.specs.Review.{factor}
use Rattle.forms.specs.Written.{variable_tags, variable_tags_all, length_words}
use Rattle.forms.specs.Lists.{Mem, length_flat_map_le}
use Rattle.promises.specs.Trace.{trace}
use Rattle.rules.specs.Following.{Solution, solve}
use Rattle.promises.proofs.Solve.{founds_start}
use Rattle.promises.specs.Twin.{sound}
use Rattle.promises.specs.Parts.{cons_parts, join_parts, part_size}
use Rattle.promises.specs.Budget.{rows_of}
use Rattle.promises.specs.Bound.{Fine, fine_target, rows_bound}
use Rattle.forms.specs.Origins.{plain_target}
use Rattle.promises.specs.Room.{cons_member, join_member, row_append, widest}

row_bind : (form : Form) (e : Bindings) (v : Valueᵒ) → length (row form (e ++ (v ∷ []))) ≡ length (row form e) + length (told form v)
unfolding row
row_bind form e v = ap length (row_append form e (v ∷ [])) ∙ length-append (row form e) (told form v ++ [])
    ∙ ap (λ n. length (row form e) + n) (ap length (append-nil (told form v)))

told_most : (form : Form) (v : Valueᵒ) → length (told form v) ≡ widest form (size (plain v))
unfolding told widest
told_most as_words v = length_words (plain v)
told_most as_origins v = refl

widest_grows : (form : Form) (a b : ℕ) → a ≤ b → widest form a ≤ widest form b
unfolding widest
widest_grows as_words a b h = h
widest_grows as_origins a b h = le_refl 3

-- ---- At most n more words for each variable, where the value has at most n.

mutual
  unfolding Follows variable_tags size plain

  follows_row : (dialect : Dialect) (form : Form) (p : Pattern) (m : Matcher) (v : Valueᵒ) (e : Bindings) (w : Way) (d : Bindings) (n : ℕ) → Follows dialect p m v e w d → size (plain v) ≤ n
      → length (row form d) ≤ length (row form e) + variable_tags p * widest form n
  follows_row dialect form wildcard m v e w d n h s = let q = ap (λ (z : Bindings). length (row form z)) h.1 in omega arith
  follows_row dialect form nil m v e w d n h s = let q = ap (λ (z : Bindings). length (row form z)) h.2 in omega arith
  follows_row dialect form (variable x) m v e w d n h s = let q = ap (λ (z : Bindings). length (row form z)) h.1 ∙ row_bind form e v in omega (arith, told_most form v, widest_grows form (size (plain v)) n s)
  follows_row dialect form (constant c) m v e w d n h s = let q = ap (λ (z : Bindings). length (row form z)) h.2 in omega arith
  follows_row dialect form (value x c) m v e w d n h s = let q = ap (λ (z : Bindings). length (row form z)) h.2 in omega arith
  follows_row dialect form (cons p q) m v e w d n h s =
      let k = cons_parts m v (record { first = h.a; second = h.b }) (cons_member dialect m v h.here h.a h.b h.divided) in
      let i = follows_row dialect form p (element m) h.a e h.one h.between n h.first (le_trans (part_size k.first) s) in
      let j = follows_row dialect form q m h.b h.between h.two d n h.second (le_trans (part_size k.second) s) in
      omega arith
  follows_row dialect form (join p q) m v e w d n h s =
      let k = join_parts v (record { first = h.a; second = h.b }) (join_member v h.here h.a h.b h.divided) in
      let i = follows_row dialect form p m h.a e h.one h.between n h.first (le_trans (part_size k.first) s) in
      let j = follows_row dialect form q m h.b h.between h.two d n h.second (le_trans (part_size k.second) s) in
      omega arith
  follows_row dialect form (tuple ps) m (intᵒ o x) e w d n h s = absurd h
  follows_row dialect form (tuple ps) m (collectionᵒ o vs) e w d n h s = absurd h
  follows_row dialect form (tuple ps) m (tupledᵒ o vs) e w d n h s = follows_row_each dialect form ps (members m) vs e w d n h (omega arith)
  follows_row dialect form (both p q) m v e w d n h s =
      let i = follows_row dialect form p m v e h.one h.between n h.first s in
      let j = follows_row dialect form q m v h.between h.two d n h.others s in
      omega arith
  follows_row dialect form (either p q) m v e w d n (inl h) s = let i = follows_row dialect form p m v e h.rest d n h.inside s in omega arith
  follows_row dialect form (either p q) m v e w d n (inr h) s = let i = follows_row dialect form q m v e h.rest d n h.inside s in omega arith
  follows_row dialect form (never p) m v e w d n h s = let q = ap (λ (z : Bindings). length (row form z)) h.2 in omega arith

  follows_row_each : (dialect : Dialect) (form : Form) (ps : Patterns) (ms : Matchers) (vs : Valuesᵒ) (e : Bindings) (w : Way) (d : Bindings) (n : ℕ)
      → FollowsAll dialect ps ms vs e w d → size_all (plain_all vs) ≤ n
      → length (row form d) ≤ length (row form e) + variable_tags_all ps * widest form n
  follows_row_each dialect form no_patterns ms vs e w d n h s = let q = ap (λ (z : Bindings). length (row form z)) h.1 in omega arith
  follows_row_each dialect form (p ▸ᵖ ps) no_matchers vs e w d n h s = let q = ap (λ (z : Bindings). length (row form z)) h.1 in omega arith
  follows_row_each dialect form (p ▸ᵖ ps) (m ▸ᵐ ms) emptyᵒ e w d n h s = let q = ap (λ (z : Bindings). length (row form z)) h.1 in omega arith
  follows_row_each dialect form (p ▸ᵖ ps) (m ▸ᵐ ms) (v ▸ᵒ vs) e w d n h s =
      let i = follows_row dialect form p m v e h.one h.between n h.first (omega arith) in
      let j = follows_row_each dialect form ps ms vs h.between h.two d n h.others (omega arith) in
      omega arith

row_words : (dialect : Dialect) (form : Form) (m : Matcher) (p : Pattern) (v : Valueᵒ) (e : Bindings) → Mem e (map (λ (t : Solution). t.bound) (solve dialect p m v []))
    → length (row form e) ≤ variable_tags p * widest form (size (plain v))
unfolding row
row_words dialect form m p v e i =
    let r = Memᴰ.of_map (λ (t : Solution). t.bound) (solve dialect p m v []) i in
    subst (λ (d : Bindings). length (row form d) ≤ variable_tags p * widest form (size (plain v))) r.2
    (rw zero-add at (follows_row dialect form p m v [] r.0.way r.0.bound (size (plain v)) (sound dialect p m v [] r.0 r.1) (le_refl (size (plain v)))))

-- All rows of the search.
pub rows_words : (dialect : Dialect) (form : Form) (cap : ℕ) (m : Matcher) (p : Pattern) (v : Value) → Fine cap 0 m v
    → length (rows_of form (trace dialect (start m p v ∷ []))) ≤ factor cap 0 p m * (variable_tags p * widest form (size v))
unfolding rows_of
rows_words dialect form cap m p v s = rw (founds_start dialect m p v)
    (le_trans (length_flat_map_le (row form) (variable_tags p * widest form (size v)) (map (λ (t : Solution). t.bound) (solve dialect p m (target v) []))
    (λ e i. subst (λ (u : Value). length (row form e) ≤ variable_tags p * widest form (size u)) (plain_target v) (row_words dialect form m p (target v) e i)))
    (simp length-map (mul-le-mul_right (variable_tags p * widest form (size v)) (rows_bound dialect cap 0 p m (target v) [] (fine_target cap m v s)))))
