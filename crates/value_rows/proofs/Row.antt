-- The size and the words of held values and of rows, as the code asks. Assumes nothing.
use mathlib.Core.Path.{◌≡◌, refl, sym, ◌∙◌, ap, ap₂}
use mathlib.Core.Bool.{Bool, true, false}
use mathlib.Core.List.{List, [], ◌∷◌, ◌++◌, map}
use Prim.Native.Nat.{ℕ, zero, suc, ◌+◌, ◌-◌, ◌*◌, ◌/◌, ◌%◌, ◌^◌, ◌<◌, ◌≤◌}
use native.Mathlib.Nat.{suc-mul, mul-le-mul, le_refl, le-suc}
use native.Mathlib.Numerals.{add-one}
use native.Mathlib.Omega.{arith}
use borrow.Author.Rules.{rules}
use lib.ListN.{length, get_or, take, drop, length-append, length-take}
use lib.Seq.{drop-cons, get_or-take}
use lib.IntN.{ℤ, pos}
use lib.Count.{ones, count_trailing_zeros}
use mir.Syntax.{w64}
use mir.Val.{Fits}
use Rattle.rules.specs.Forms.{Values, empty, ◌▸◌, words, words_all, size, size_all}
use Rattle.rules.specs.Rows.{Form, as_words, as_origins, bits, told, row}
use Rattle.words.specs.Words.{tag_at}
use Rattle.words.specs.Marks.{clear}
use Rattle.words.specs.Marked.{marked}
use Rattle.words.proofs.marks.Places.{by_digit_lem}
use Rattle.words.proofs.marks.Marked.{count_marked}
use Rattle.value_places.specs.Places.{value_at, elements, Target, Tag, element_at}
use Rattle.tables.specs.Place.{sections_of}
use Rattle.value_places.specs.Tables.{Placed}
use Rattle.value_places.specs.Held.{Held, held_at, left, size_left, words_left, put, part}
use Rattle.value_rows.specs.Row.{origin_of, form_by, told_at, bound, bound_from, nothing, Bound}
use Rattle.value_rows.specs.declared.Binding.{Binding}
use Rattle.forms.specs.Written.{length_words}
use Rattle.value_places.proofs.Forest.{is_here, two_words}
use Rattle.value_places.proofs.Elements.{second, by_tag, int_at, collection_at, tag_small, slice_words}
use Rattle.value_places.proofs.Held.{held_int, held_collection, held_tuple, held_tag, held_clear, held_some, left_none, next_in, next_tag, next_left}
use Rattle.value_places.proofs.Origins.{plain_origin, origin_index, origin_marks}
use Rattle.value_places.proofs.Filling.{find_half}
use Rattle.value_rows.proofs.Room.{length_put, put_append, put_none}

-- ---- The size.

size_marked : (vs : Values) (m : ℕ) → size_all (marked vs m) ≤ size_all vs
unfolding marked size_all
size_marked empty m = omega arith
size_marked (v ▸ vs) m = let r = size_marked vs (m / 2) in by_digit_lem _ m (λ e. rw e (omega arith)) (λ e. rw e (omega arith))

module _ (s : List ℤ) (at m tag : ℕ) (g : Target s) (w : Held s at m) (d : tag ≡ tag_at s at) where
  pub size_int : tag ≡ 0 → 2 ≡ size (held_at s at m)
  unfolding size
  size_int z = rw (held_int s at m g w.tag (sym d ∙ z))

  pub size_tuple : (r : ℕ) → tag ≡ 2 → r ≡ size (value_at s at) → r ≡ size (held_at s at m)
  size_tuple r z e = e ∙ ap size (sym (held_tuple s at m g w.tag (sym d ∙ z)))

  module _ (f : tag ≡ 0 → ⊥) (h : tag ≡ 2 → ⊥) where
    pub a_collection : tag_at s at ≡ 1
    a_collection = by_tag s at g w.tag _ (λ e. absurd (f (d ∙ e))) (λ e. e) (λ e. absurd (h (d ∙ e)))

    pub size_collection : size (held_at s at m) ≡ 2 + size_left s at m
    unfolding size size_left
    size_collection = rw (held_collection s at m g w.tag a_collection)

    size_within : size (held_at s at m) ≤ length s
    unfolding size_left left size
    size_within =
        let i = is_here s at g w.tag in
        let v : size (value_at s at) ≡ 2 + size_all (elements (value_at s at)) = ap size (collection_at s at g w.tag a_collection) in
        omega (arith, size_collection, size_marked (elements (value_at s at)) m, v, i.fits)

    pub size_held : size (held_at s at m) ≤ 1024
    size_held = omega (arith, size_within, g.short)

-- The words of a whole value, up to its end.
module _ (s : List ℤ) (t : List ℕ) (at z : ℕ) (g : Target s) (q : Placed s t) (w : Tag s at) (u : z ≡ get_or (sections_of t).ends (at / 2) 0) where
  whole_end : z ≡ at + size (value_at s at)
  whole_end = u ∙ q.ends.are at w

  pub whole_le : at ≤ z
  whole_le = omega (arith, whole_end)

  pub whole_size : z - at ≡ size (value_at s at)
  whole_size = omega (arith, whole_end)

  pub whole_fits : z ≤ length s
  whole_fits = omega (arith, whole_end, (is_here s at g w).fits)

  module _ (from : ℕ) where
    pub copied_room : (l : ℕ) → from + size (value_at s at) ≤ l → from + (z - at) ≤ l
    copied_room l b = omega (arith, whole_size)

    pub copied_end : (r : ℕ) → r ≡ from + (z - at) → r ≡ from + size (value_at s at)
    copied_end r e = omega (arith, whole_size)

    pub copied : (room room' : List ℤ) → room' ≡ put room from (part at z s) → room' ≡ put room from (words (value_at s at))
    unfolding part
    copied room room' e = e ∙ ap (put room from) (rw whole_end (slice_words s at g w))

-- An integer: two words.
module _ (s : List ℤ) (at from tag : ℕ) (g : Target s) (w : Tag s at) (d : tag ≡ tag_at s at) (z : tag ≡ 0) where
  pub integer_end : (r : ℕ) → r ≡ from + 2 → r ≡ from + size (value_at s at)
  unfolding size
  integer_end r e = rw (e, int_at s at g w (sym d ∙ z))

  pub integer_words : (room room' : List ℤ) (x : ℤ) → x ≡ get_or s (at + 1) (pos 0) → room' ≡ put room from (pos 0 ∷ x ∷ []) → room' ≡ put room from (words (value_at s at))
  unfolding words
  integer_words room room' x q i = i ∙ rw (int_at s at g w (sym d ∙ z), q)

pub two_room : (s : List ℤ) (at from l : ℕ) → from + size (value_at s at) ≤ l → from + 2 ≤ l
two_room s at from l b = omega (arith, two_words (value_at s at))

pub ruleset put_whole_rules = (tag_small, second, integer_end, integer_words, two_room, find_half, whole_le, whole_fits, copied_room, copied_end, copied, length_put, rules)

pub size_done : (s : List ℤ) (at m n x : ℕ) → x ≡ n + size_left s at m → m ≡ 0 → n ≡ x
unfolding size_left size_all
size_done s at m n x e h = omega (arith, ap size_all (left_none s at m (omega arith)))

-- The next element.
module _ (s : List ℤ) (at m k e : ℕ) (g : Target s) (w : Held s at m) (d : k ≡ count_trailing_zeros 64 m) (h : 0 < m) (i : e ≡ element_at s at k) where
  next_size : (x : ℕ) → x ≡ clear (count_trailing_zeros 64 m) m → size_left s at m ≡ size (value_at s e) + size_left s at x
  unfolding size_left size_all
  next_size x j = rw (next_left s at m k g w d h e i x j)

  next_words : (x : ℕ) → x ≡ clear (count_trailing_zeros 64 m) m → words_left s at m ≡ words (value_at s e) ++ words_left s at x
  unfolding words_left words_all
  next_words x j = rw (next_left s at m k g w d h e i x j)

  pub put_turn : (room room' x : List ℤ) (o o' y : ℕ) → x ≡ put room o (words_left s at m) → o' ≡ o + size (value_at s e) → room' ≡ put room o (words (value_at s e))
      → y ≡ clear (count_trailing_zeros 64 m) m → x ≡ put room' o' (words_left s at y)
  put_turn room room' x o o' y a p r n = a ∙ rw (p, r, next_words y n, ← length_words (value_at s e)) (put_append (words (value_at s e)) (words_left s at y) room o)

  pub put_size : (o o' x y : ℕ) → x ≡ o + size_left s at m → o' ≡ o + size (value_at s e) → y ≡ clear (count_trailing_zeros 64 m) m → x ≡ o' + size_left s at y
  put_size o o' x y a p n = let b = next_size y n in omega arith

  pub put_room : (o x l : ℕ) → x ≡ o + size_left s at m → x ≤ l → o + size (value_at s e) ≤ l
  put_room o x l a b = let c = next_size _ refl in omega arith

module _ (s : List ℤ) (t : List ℕ) (at m k e : ℕ) (g : Target s) (q : Placed s t) (w : Held s at m) (d : k ≡ count_trailing_zeros 64 m) (h : 0 < m)
    (i : e ≡ element_at s at k) where
  next_is : (x : ℕ) → x ≡ clear (count_trailing_zeros 64 m) m → size_left s at m ≡ size (value_at s e) + size_left s at x
  next_is = next_size s at m k e g w d h i

  pub end_half : e / 2 < 512
  end_half = let t = next_tag s at m k g w d h e i in let l = g.short in omega (arith, t.inside)

  module _ (z : ℕ) (u : z ≡ get_or (sections_of t).ends (e / 2) 0) where
    end_is : z ≡ e + size (value_at s e)
    end_is = u ∙ q.ends.are e (next_tag s at m k g w d h e i)

    pub end_le : e ≤ z
    end_le = omega (arith, end_is)

    pub size_turn : (n x y : ℕ) → y ≡ n + size_left s at m → x ≡ clear (count_trailing_zeros 64 m) m → y ≡ n + (z - e) + size_left s at x
    size_turn n x y a j = let b = next_is x j in omega (arith, end_is)

    pub size_fits : (n y : ℕ) → y ≡ n + size_left s at m → y ≤ 1024 → Fits w64 (n + (z - e))
    size_fits n y a l = let b = next_is _ refl in record { fits = omega (arith, end_is) }

pub ruleset next_rules = (tag_small, end_half, end_le, held_clear, next_in, rules)

pub ruleset size_rules = (size_int, size_tuple, size_collection, size_held, size_done, size_turn, size_fits, held_tag, next_rules)

-- ---- The words of a held value.

pub put_done : (s room x : List ℤ) (at m o : ℕ) → x ≡ put room o (words_left s at m) → m ≡ 0 → room ≡ x
unfolding words_left words_all
put_done s room x at m o a h = sym (a ∙ rw (left_none s at m (omega arith)) (put_none room o))

pub ruleset left_rules = (put_turn, put_size, put_room, put_done, size_done, length_put, held_tag, next_tag, next_in, held_clear, rules)

module _ (s : List ℤ) (at m from tag : ℕ) (g : Target s) (w : Held s at m) (d : tag ≡ tag_at s at) where
  -- An integer or a tuple is held whole.
  module _ (f : tag ≡ 1 → ⊥) where
    kept_whole : held_at s at m ≡ value_at s at
    kept_whole = by_tag s at g w.tag _
        (λ e. held_int s at m g w.tag e ∙ sym (int_at s at g w.tag e))
        (λ e. absurd (f (d ∙ e)))
        (λ e. held_tuple s at m g w.tag e)

    pub kept_room : (l : ℕ) → from + size (held_at s at m) ≤ l → from + size (value_at s at) ≤ l
    kept_room l b = rw (← kept_whole) b

    pub kept_end : (r : ℕ) → r ≡ from + size (value_at s at) → r ≡ from + size (held_at s at m)
    kept_end r e = rw kept_whole e

    pub kept_words : (room room' : List ℤ) → room' ≡ put room from (words (value_at s at)) → room' ≡ put room from (words (held_at s at m))
    kept_words room room' e = rw kept_whole e

  module _ (z : tag ≡ 1) where
    size_left_lem : size (held_at s at m) ≡ 2 + size_left s at m
    unfolding size size_left
    size_left_lem = rw (held_collection s at m g w.tag (sym d ∙ z))

    pub put_collection : (room room' room'' : List ℤ) (n : ℤ) (o : ℕ) → n ≡ pos (ones m) → o ≡ from + 2 → room' ≡ put room from (pos 1 ∷ n ∷ [])
        → room'' ≡ put room' o (words_left s at m) → room'' ≡ put room from (words (held_at s at m))
    unfolding words words_left left
    put_collection room room' room'' n o q p r i =
        i ∙ rw (p, r, q, held_collection s at m g w.tag (sym d ∙ z), count_marked (elements (value_at s at)) m (held_some s at m g w))
        (sym (put_append (pos 1 ∷ pos (ones m) ∷ []) (words_left s at m) room from))

    pub put_collection_end : (r o : ℕ) → o ≡ from + 2 → r ≡ o + size_left s at m → r ≡ from + size (held_at s at m)
    put_collection_end r o p i = omega (arith, i, size_left_lem)

    pub put_collection_room : (room room' ws : List ℤ) (o : ℕ) → o ≡ from + 2 → room' ≡ put room from ws → from + size (held_at s at m) ≤ length room
        → o + size_left s at m ≤ length room'
    put_collection_room room room' ws o p i b = omega (arith, size_left_lem, ap length i ∙ length_put room from ws)

pub put_two_room : (s : List ℤ) (at m from l : ℕ) → from + size (held_at s at m) ≤ l → from + 2 ≤ l
put_two_room s at m from l b = omega (arith, two_words (held_at s at m))

pub ruleset put_rules = (tag_small, kept_room, kept_end, kept_words, put_collection, put_collection_end, put_collection_room, put_two_room, held_tag, length_put, rules)

-- ---- What a row tells of a held value.

told_words : (s : List ℤ) (at m : ℕ) → told_at as_words s at m ≡ words (held_at s at m)
unfolding told_at told
told_words s at m = ap words (plain_origin s at m 0)

words_size : (s : List ℤ) (at m : ℕ) → length (told_at as_words s at m) ≡ size (held_at s at m)
words_size s at m = ap length (told_words s at m) ∙ length_words (held_at s at m)

told_origin : (s : List ℤ) (at m : ℕ) → Target s → Held s at m → told_at as_origins s at m ≡ pos at ∷ bits (m % 2 ^ 32) ∷ bits (m / 2 ^ 32) ∷ []
unfolding told_at told
told_origin s at m g w = ap₂ (λ (a n : ℕ). pos a ∷ bits (n % 2 ^ 32) ∷ bits (n / 2 ^ 32) ∷ []) (origin_index s at m 0) (origin_marks s at m 0 g w)

three : (s : List ℤ) (at m : ℕ) → length (told_at as_origins s at m) ≡ 3
unfolding told_at told
three s at m = refl

module _ (o : Bool) (s : List ℤ) (at m from : ℕ) where
  pub entry_origin_room : (l : ℕ) → o ≡ true → from + length (told_at (form_by o) s at m) ≤ l → from + 3 ≤ l
  unfolding form_by
  entry_origin_room l e h = omega (arith, three s at m, rw e at h)

  pub entry_origin_end : (r : ℕ) → o ≡ true → r ≡ from + 3 → r ≡ from + length (told_at (form_by o) s at m)
  unfolding form_by
  entry_origin_end r e i = rw e (omega (arith, i, three s at m))

  pub entry_origin : (room room' : List ℤ) → o ≡ true → Target s → Held s at m → room' ≡ put room from (pos at ∷ bits (m % 2 ^ 32) ∷ bits (m / 2 ^ 32) ∷ [])
      → room' ≡ put room from (told_at (form_by o) s at m)
  unfolding form_by
  entry_origin room room' e g w i = i ∙ rw e (ap (put room from) (sym (told_origin s at m g w)))

  pub entry_words_room : (l : ℕ) → o ≡ false → from + length (told_at (form_by o) s at m) ≤ l → from + size (held_at s at m) ≤ l
  unfolding form_by
  entry_words_room l e h = omega (arith, words_size s at m, rw e at h)

  pub entry_words_end : (r : ℕ) → o ≡ false → r ≡ from + size (held_at s at m) → r ≡ from + length (told_at (form_by o) s at m)
  unfolding form_by
  entry_words_end r e i = rw e (omega (arith, i, words_size s at m))

  pub entry_words : (room room' : List ℤ) → o ≡ false → room' ≡ put room from (words (held_at s at m)) → room' ≡ put room from (told_at (form_by o) s at m)
  unfolding form_by
  entry_words room room' e i = i ∙ rw e (ap (put room from) (sym (told_words s at m)))

pub held_1024 : (s : List ℤ) (at m : ℕ) → Target s → Held s at m → at < 1024
held_1024 s at m g w = omega (arith, w.tag.inside, g.short)

pub ruleset entry_rules = (entry_origin_room, entry_origin_end, entry_origin, entry_words_room, entry_words_end, entry_words, held_1024, length_put, rules)

-- ---- The row.

module _ (s : List ℤ) (b : List Binding) (n v : ℕ) (q : Bound s b n) (h : v < n) where
  pub row_held : Held s (get_or b v nothing).at (get_or b v nothing).marks
  row_held = q.are v h

  pub row_16 : v < 16
  row_16 = omega (arith, q.most)

  pub row_mul : Fits w64 (v * 16)
  row_mul = let z = row_16 in record { fits = omega arith }

  module _ (form : Form) where
    row_step_lem : row form (bound_from s b v n) ≡ told_at form s (get_or b v nothing).at (get_or b v nothing).marks ++ row form (bound_from s b (v + 1) n)
    unfolding bound_from origin_of told_at row
    row_step_lem =
        let l : v < length (take n b) = rw length-take (omega (arith, q.most, q.long)) in
        rw (drop-cons (take n b) v nothing l, get_or-take n b v nothing h, add-one v)

    step_length : length (row form (bound_from s b v n)) ≡ length (told_at form s (get_or b v nothing).at (get_or b v nothing).marks) + length (row form (bound_from s b (v + 1) n))
    step_length = ap length row_step_lem ∙ length-append (told_at form s (get_or b v nothing).at (get_or b v nothing).marks) (row form (bound_from s b (v + 1) n))

    pub row_room : (o y l : ℕ) → y ≡ o + length (row form (bound_from s b v n)) → y ≤ l → o + length (told_at form s (get_or b v nothing).at (get_or b v nothing).marks) ≤ l
    row_room o y l i k = omega (arith, step_length)

    pub row_turn_size : (o o' y : ℕ) → y ≡ o + length (row form (bound_from s b v n)) → o' ≡ o + length (told_at form s (get_or b v nothing).at (get_or b v nothing).marks)
        → y ≡ o' + length (row form (bound_from s b (v + 1) n))
    row_turn_size o o' y i k = omega (arith, step_length)

    pub row_turn : (room room' x : List ℤ) (o o' : ℕ) → x ≡ put room o (row form (bound_from s b v n)) → o' ≡ o + length (told_at form s (get_or b v nothing).at (get_or b v nothing).marks)
        → room' ≡ put room o (told_at form s (get_or b v nothing).at (get_or b v nothing).marks) → x ≡ put room' o' (row form (bound_from s b (v + 1) n))
    row_turn room room' x o o' i k j =
        i ∙ rw (k, j, row_step_lem) (put_append (told_at form s (get_or b v nothing).at (get_or b v nothing).marks) (row form (bound_from s b (v + 1) n)) room o)

  words_length : length (row as_words (bound_from s b v n)) ≡ size (held_at s (get_or b v nothing).at (get_or b v nothing).marks) + length (row as_words (bound_from s b (v + 1) n))
  words_length = step_length as_words ∙ ap (λ (k : ℕ). k + length (row as_words (bound_from s b (v + 1) n))) (words_size s (get_or b v nothing).at (get_or b v nothing).marks)

row_none : (form : Form) (s : List ℤ) (b : List Binding) (n v : ℕ) → Bound s b n → n ≤ v → row form (bound_from s b v n) ≡ []
unfolding bound_from row
row_none form s b n v q h = ap (λ (l : List Binding). row form (map (origin_of s) l)) (all_dropped (take n b) v (rw length-take (omega (arith, q.most, q.long))))
  where
    all_dropped : (l : List Binding) (k : ℕ) → length l ≤ k → drop k l ≡ []
    all_dropped [] zero h = refl
    all_dropped [] (suc k) h = refl
    all_dropped (x ∷ l) zero h = absurd (omega arith)
    all_dropped (x ∷ l) (suc k) h = all_dropped l k (omega arith)

pub row_out : (form : Form) (s room x : List ℤ) (b : List Binding) (n v o : ℕ) → Bound s b n → x ≡ put room o (row form (bound_from s b v n)) → n ≤ v → room ≡ x
row_out form s room x b n v o q i h = sym (i ∙ rw (row_none form s b n v q h) (put_none room o))

pub row_out_size : (form : Form) (s : List ℤ) (b : List Binding) (n v o y : ℕ) → Bound s b n → y ≡ o + length (row form (bound_from s b v n)) → n ≤ v → o ≡ y
row_out_size form s b n v o y q i h = omega (arith, ap length (row_none form s b n v q h))

module _ (form : Form) (s : List ℤ) (b : List Binding) (n : ℕ) where
  row_start : row form (bound s b n) ≡ row form (bound_from s b 0 n)
  unfolding bound bound_from
  row_start = refl

  pub row_start_size : (o : ℕ) → o + length (row form (bound s b n)) ≡ o + length (row form (bound_from s b 0 n))
  row_start_size o = rw row_start

  pub row_start_sum : length (row form (bound s b n)) ≡ 0 + length (row form (bound_from s b 0 n))
  row_start_sum = omega (arith, ap length row_start)

  pub row_start_room : (room : List ℤ) (o : ℕ) → put room o (row form (bound s b n)) ≡ put room o (row form (bound_from s b 0 n))
  row_start_room room o = rw row_start

-- ---- The size of the row.

held_within : (s : List ℤ) (at m : ℕ) → Target s → Held s at m → size (held_at s at m) ≤ length s
held_within s at m g w = by_tag s at g w.tag _
    (λ e. omega (arith, size_int s at m (tag_at s at) g w refl e, second s at g w.tag))
    (λ e. size_within s at m (tag_at s at) g w refl (λ z. omega arith) (λ z. omega arith))
    (λ e. omega (arith, size_tuple s at m (tag_at s at) g w refl (size (value_at s at)) e refl, (is_here s at g w.tag).fits))

-- A row has no more words than its variables have targets.
module _ (s : List ℤ) (b : List Binding) (n : ℕ) (q : Bound s b n) (g : Target s) where
  row_most : (k v : ℕ) → v + k ≡ n → length (row as_words (bound_from s b v n)) ≤ k * length s
  row_most zero v e = rw (row_none as_words s b n v q (omega arith)) (omega arith)
  row_most (suc k) v e =
      let h : v < n = omega arith in
      rw (suc-mul k (length s))
      (omega (arith, words_length s b n v q h, held_within s (get_or b v nothing).at (get_or b v nothing).marks g (q.are v h), row_most k (v + 1) (omega arith)))

  words_within : length (row as_words (bound s b n)) ≤ n * length s
  words_within = rw (row_start as_words s b n) (row_most n 0 (omega arith))

  origins_are : (k v : ℕ) → v + k ≡ n → length (row as_origins (bound_from s b v n)) ≡ 3 * k
  origins_are zero v e = rw (row_none as_origins s b n v q (omega arith)) (omega arith)
  origins_are (suc k) v e =
      let h : v < n = omega arith in
      omega (arith, step_length s b n v q h as_origins, three s (get_or b v nothing).at (get_or b v nothing).marks, origins_are k (v + 1) (omega arith))

  three_each : length (row as_origins (bound s b n)) ≡ 3 * n
  three_each = rw (row_start as_origins s b n) (origins_are n 0 (omega arith))

  -- In either form a row has no more words than its variables have targets with one word more. (A target has two words.)
  pub row_within : (form : Form) → 0 < length s → length (row form (bound s b n)) ≤ n * (length s + 1)
  row_within as_words l = omega (arith, words_within, mul-le-mul (le_refl n) (le-suc (length s)))
  row_within as_origins l =
      let t : 3 ≤ length s + 1 = omega (arith, second s 0 g (record { even = refl; inside = l })) in
      omega (arith, three_each, mul-le-mul (le_refl n) t)

pub targets_fit : (s : List ℤ) (n : ℕ) → Target s → n ≤ 16 → Fits w64 (n * (length s + 1))
targets_fit s n g h =
    let k : length s + 1 ≤ 1025 = omega (arith, g.short) in
    let l : n * (length s + 1) ≤ 16 * 1025 = mul-le-mul h k in
    record { fits = omega arith }

module _ (o : Bool) (s : List ℤ) (b : List Binding) (n : ℕ) where
  pub size_origins : (r : ℕ) → Target s → Bound s b n → o ≡ true → 3 * n ≡ length (row (form_by o) (bound s b n))
  unfolding form_by
  size_origins r g q e = rw e (sym (three_each s b n q g))

  pub size_words : (r : ℕ) → o ≡ false → r ≡ length (row as_words (bound s b n)) → r ≡ length (row (form_by o) (bound s b n))
  unfolding form_by
  size_words r e i = rw e i

pub three_fit : (s : List ℤ) (b : List Binding) (n : ℕ) → Bound s b n → Fits w64 (3 * n)
three_fit s b n q = record { fits = omega (arith, q.most) }

pub ruleset form_size_rules = (size_origins, size_words, three_fit, rules)

module _ (s : List ℤ) (b : List Binding) (n v k r : ℕ) (q : Bound s b n) (h : v < n) (g : Target s)
    (e : r ≡ size (held_at s (get_or b v nothing).at (get_or b v nothing).marks)) where
  small : r ≤ 1024
  small = omega (arith, e, held_within s (get_or b v nothing).at (get_or b v nothing).marks g (row_held s b n v q h), g.short)

  pub sum_fits : k ≤ v * 1024 → Fits w64 (k + r)
  sum_fits a = let z = row_16 s b n v q h in record { fits = omega (arith, small) }

  pub sum_bound : k ≤ v * 1024 → k + r ≤ (v + 1) * 1024
  sum_bound a = omega (arith, small)

  pub sum_turn : (y : ℕ) → y ≡ k + length (row as_words (bound_from s b v n)) → y ≡ k + r + length (row as_words (bound_from s b (v + 1) n))
  sum_turn y i = omega (arith, words_length s b n v q h)

pub words_out_size : (s : List ℤ) (b : List Binding) (n v o y : ℕ) → Bound s b n → y ≡ o + length (row as_words (bound_from s b v n)) → n ≤ v → o ≡ y
words_out_size = row_out_size as_words

pub words_start_sum : (s : List ℤ) (b : List Binding) (n : ℕ) → length (row as_words (bound s b n)) ≡ 0 + length (row as_words (bound_from s b 0 n))
words_start_sum = row_start_sum as_words

pub ruleset sum_rules = (sum_fits, sum_bound, sum_turn, row_held, row_16, row_mul, words_out_size, words_start_sum, rules)
