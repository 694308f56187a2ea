-- The stores of a push are one changed slot; so are those of a choice, of an and, and of an or or a not; those of a tuple are one for each part that waits.
use Prim.Native.Nat.{ℕ, zero, suc, ◌+◌, ◌≤◌, ◌<◌}
use native.Mathlib.Numerals.{add-one}
use native.Mathlib.Omega.{arith}
use mathlib.Core.Path.{◌≡◌, refl, sym, ap, ◌∙◌, fun_ext}
use mathlib.Core.Bool.{Bool, true, false}
use mathlib.Core.Option.{none, some}
use mathlib.Core.List.{List}
use lib.ListN.{get_or, set, length-set}
use lib.Seq.{get_or-set_same, get_or-set_other}
use lib.Dec.{eqb, eqb→eq, eqb_refl, T}
use lib.IntN.{ℤ}
use Rattle.rules.specs.Dialects.{Dialect}
use Rattle.rules.specs.Rows.{Form}
use Rattle.words.specs.Words.{entries}
use Rattle.search_machine.specs.Engine.{put, Slot, kept, framed, keeping, slot_after}
use Rattle.value_places.specs.Places.{Target, element_at}
use Rattle.search_step.specs.declared.State.{State}
use Rattle.search_atom.specs.Leaves.{when, stored, part_marks, now_left}
use Rattle.tables.specs.Slot.{Tables, tables}
use Rattle.search_step.specs.Steps.{pushed_in, kept_in, framed_in}
use Rattle.search.specs.Valid.{Long}
use Rattle.search_machine.specs.Operations.{binding, some_of}
use Rattle.search_machine.specs.Operations as operations
use Rattle.search_machine.proofs.Instance.{places}
use Rattle.search.specs.Meaning.{slots_of}

module _ (dialect : Dialect) (form : Form) (s : List ℤ) (g : Target s) where
  -- A table that differs in one entry only.
  one_changed : (f old : ℕ → Slot (places dialect form s g)) (i : ℕ) (x : Slot (places dialect form s g)) → f i ≡ x → ((j : ℕ) → (j ≡ i → ⊥) → f j ≡ old j) → f ≡ put old i x
  unfolding put
  one_changed f old i x e h = fun_ext (λ j. go j (eqb i j) (eqb→eq i j) (λ q. rw q (eqb_refl j)))
    where
      go : (j : ℕ) (b : Bool) → (T b → i ≡ j) → (i ≡ j → T b) → f j ≡ elim b as (λ _. Slot (places dialect form s g)) [ true ↦ x | false ↦ old j ]
      go j true p q = rw (sym (p tt)) e
      go j false p q = h j (λ z. q (sym z))

  pub slots_push : (c : ℕ) (x : State) (t : Tables) → Long t → x.pc < entries
      → slots_of dialect form s g (pushed_in c x t)
      ≡ put (slots_of dialect form s g t) x.pc (record { held = binding x.at x.marks; rem = c; prev = x.top; second = binding x.at (get_or t.backs x.pc 0) })
  unfolding slots_of pushed_in
  slots_push c x t l h = one_changed _ _ x.pc _
      (rw (get_or-set_same t.ats x.pc x.at 0 (omega (arith, l.ats)), get_or-set_same t.wholes x.pc x.marks 0 (omega (arith, l.wholes)), get_or-set_same t.lefts x.pc c 0 (omega (arith, l.lefts)), get_or-set_same t.lows x.pc x.top 0 (omega (arith, l.lows))))
      (λ j n. rw (get_or-set_other t.ats x.pc j x.at 0 n, get_or-set_other t.wholes x.pc j x.marks 0 n, get_or-set_other t.lefts x.pc j c 0 n, get_or-set_other t.lows x.pc j x.top 0 n))

  pub slots_pick : (more b j : ℕ) (t : Tables) → Long t → j < entries
      → slots_of dialect form s g (tables t.ats t.wholes (now_left more j t.lefts) t.lows (set t.backs j b))
      ≡ put (slots_of dialect form s g t) j (slot_after (places dialect form s g) (slots_of dialect form s g t j) (some_of more) (binding (get_or t.ats j 0) b))
  unfolding slots_of slot_after now_left some_of when
  slots_pick more b j t l h = by (eqb more 0)
    where
      by : (q : Bool) → slots_of dialect form s g (tables t.ats t.wholes (when q t.lefts (set t.lefts j more)) t.lows (set t.backs j b))
          ≡ put (slots_of dialect form s g t) j (slot_after (places dialect form s g) (slots_of dialect form s g t j) (when q none (some more)) (binding (get_or t.ats j 0) b))
      by true = one_changed _ _ j _ (rw (get_or-set_same t.backs j b 0 (omega (arith, l.backs)))) (λ i n. rw (get_or-set_other t.backs j i b 0 n))
      by false = one_changed _ _ j _ (rw (get_or-set_same t.backs j b 0 (omega (arith, l.backs)), get_or-set_same t.lefts j more 0 (omega (arith, l.lefts))))
          (λ i n. rw (get_or-set_other t.backs j i b 0 n, get_or-set_other t.lefts j i more 0 n))

  -- The stores of a tuple's parts are so many changed slots.
  pub slots_keep : (at m n i j : ℕ) (t : Tables) → Long t → j + n ≤ entries
      → keeping (places dialect form s g) (slots_of dialect form s g t) j (binding at m) i n
      ≡ slots_of dialect form s g (tables (stored (element_at s at) j i n t.ats) t.wholes t.lefts t.lows (stored (part_marks s at) j i n t.backs))
  unfolding keeping stored slots_of kept operations.part_of part_marks
  slots_keep at m zero i j t l h = refl
  slots_keep at m (suc n) i j t l h =
      ap (λ (f : ℕ → Slot (places dialect form s g)). keeping (places dialect form s g) f (suc j) (binding at m) (suc i) n) (sym changed)
      ∙ rw (sym (add-one j), sym (add-one i)) (slots_keep at m n (i + 1) (j + 1) new long (omega arith))
    where
      new : Tables
      new = tables (set t.ats j (element_at s at i)) t.wholes t.lefts t.lows (set t.backs j (part_marks s at i))

      long : Long new
      long = record {
        ats = length-set t.ats j (element_at s at i) ∙ l.ats;
        wholes = l.wholes;
        lefts = l.lefts;
        lows = l.lows;
        backs = length-set t.backs j (part_marks s at i) ∙ l.backs;
      }

      changed : slots_of dialect form s g new ≡ put (slots_of dialect form s g t) j (kept (places dialect form s g) (slots_of dialect form s g t j) (operations.part_of s (binding at m) i))
      changed = one_changed _ _ j _
          (rw (get_or-set_same t.ats j (element_at s at i) 0 (omega (arith, l.ats)), get_or-set_same t.backs j (part_marks s at i) 0 (omega (arith, l.backs))))
          (λ k n. rw (get_or-set_other t.ats j k (element_at s at i) 0 n, get_or-set_other t.backs j k (part_marks s at i) 0 n))

  -- A value that waits is one changed slot, with a frame and without.
  pub slots_kept : (x : State) (t : Tables) → Long t → x.pc < entries
      → slots_of dialect form s g (kept_in x t) ≡ put (slots_of dialect form s g t) x.pc (kept (places dialect form s g) (slots_of dialect form s g t x.pc) (binding x.at x.marks))
  unfolding slots_of kept_in kept
  slots_kept x t l h = one_changed _ _ x.pc _
      (rw (get_or-set_same t.ats x.pc x.at 0 (omega (arith, l.ats)), get_or-set_same t.backs x.pc x.marks 0 (omega (arith, l.backs))))
      (λ j n. rw (get_or-set_other t.ats x.pc j x.at 0 n, get_or-set_other t.backs x.pc j x.marks 0 n))

  pub slots_framed : (x : State) (t : Tables) → Long t → x.pc < entries
      → slots_of dialect form s g (framed_in x t) ≡ put (slots_of dialect form s g t) x.pc (framed (places dialect form s g) (slots_of dialect form s g t x.pc) (binding x.at x.marks) x.top)
  unfolding slots_of framed_in framed
  slots_framed x t l h = one_changed _ _ x.pc _
      (rw (get_or-set_same t.ats x.pc x.at 0 (omega (arith, l.ats)), get_or-set_same t.backs x.pc x.marks 0 (omega (arith, l.backs)), get_or-set_same t.lows x.pc x.top 0 (omega (arith, l.lows))))
      (λ j n. rw (get_or-set_other t.ats x.pc j x.at 0 n, get_or-set_other t.backs x.pc j x.marks 0 n, get_or-set_other t.lows x.pc j x.top 0 n))
