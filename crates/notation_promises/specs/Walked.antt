-- The words of a pattern, a matcher and a target are walked as their notation is written: the tables and places, one tag at a time.
use Rattle.std.specs.Prelude.{ℕ, zero, suc, ◌+◌, ◌*◌, ◌/◌, ◌%◌, ◌≤◌, ◌<◌, ◌≡◌, refl, Option, Some, None, List, [], ◌∷◌, ◌++◌, length, get_or, drop, ℤ, pos, negsuc}
use native.Mathlib.Omega.{arith}
use Rattle.std.proofs.Common.{sym, ap, ◌∙◌, lt-ltb, le-ltb, drop-drop, drop_at, of_z}
use Rattle.std.specs.Int.{w32}
use Rattle.words.specs.Words.{tag_at}
use Rattle.notation_print.specs.Kinds.{number_of}
use Rattle.notation_print.specs.declared.Kind.{Kind}
use Rattle.notation_print.specs.declared.Kind.TheVariants.{Comma}
use Rattle.notation_write.specs.Written.{no_tag, nodes, node_of, ahead, bits_at, head_of, count_of, optional, leaf, bracket, front, behind, Written, parts, within, written}
use Rattle.notation_write.specs.declared.Node.{Node}
use Rattle.notation_write.specs.declared.Operands.{Operands}
use Rattle.notation_write.specs.declared.Operands.TheVariants.{Nothing}

-- ---- Words at an index.
pub record Head (ws : List ℤ) (at : ℕ) (w : ℤ) (rest : List ℤ) : Type 0 where
  pub is : (d : ℤ) → get_or ws at d ≡ w
  pub in' : at < length ws
  pub tail : drop (suc at) ws ≡ rest

pub head_of_lem : (ws : List ℤ) (at : ℕ) (w : ℤ) (rest : List ℤ) → drop at ws ≡ w ∷ rest → Head ws at w rest
head_of_lem [] zero w rest h = let z : ◌≡◌ {A = ℕ} 0 1 = cc in absurd (omega arith)
head_of_lem [] (suc n) w rest h = let z : ◌≡◌ {A = ℕ} 0 1 = cc in absurd (omega arith)
head_of_lem (x ∷ xs) zero w rest h = record { is = λ d. cc; in' = omega arith; tail = cc }
head_of_lem (x ∷ xs) (suc n) w rest h = let r = head_of_lem xs n w rest h in let l = r.in' in record { is = λ d. r.is d; in' = omega arith; tail = r.tail }

pub past : (ws : List ℤ) (at : ℕ) (us rest : List ℤ) → drop at ws ≡ us ++ rest → drop (at + length us) ws ≡ rest
past ws at us rest h = sym (drop-drop (length us) at ws) ∙ ap (drop (length us)) h ∙ drop_at us rest (length us) refl

pub tag_is : (ws : List ℤ) (at n : ℕ) (rest : List ℤ) → Head ws at (pos n) rest → tag_at ws at ≡ n
unfolding tag_at
tag_is ws at n rest h = rw (h.is (negsuc 0))

pub ahead_is : (ws : List ℤ) (at n : ℕ) → at < length ws → ahead ws at n ≡ at + n
unfolding ahead
ahead_is ws at n h = rw (lt-ltb at (length ws) h)

-- The operands of a tag.
pub bits_is : (ws : List ℤ) (at n : ℕ) (w : ℤ) (rest : List ℤ) → at < length ws → Head ws (at + n) w rest → bits_at ws at n ≡ of_z w32 w
unfolding bits_at
bits_is ws at n w rest h g = rw (ahead_is ws at n h, lt-ltb (at + n) (length ws) g.in', g.is (pos 0))

-- ---- The table's rows.
pub pattern_node : (l t : ℕ) → l < 8 → t < 11 → node_of l t ≡ get_or nodes t no_tag
unfolding node_of
pattern_node l t h g = let e : (l % 24 / 8 * 11 + t % 11) % 33 ≡ t = omega arith in ap (λ k. get_or nodes k no_tag) e

pub matcher_node : (l t : ℕ) → l < 8 → t < 11 → node_of (8 + l) t ≡ get_or nodes (11 + t) no_tag
unfolding node_of
matcher_node l t h g = let e : ((8 + l) % 24 / 8 * 11 + t % 11) % 33 ≡ 11 + t = omega arith in ap (λ k. get_or nodes k no_tag) e

pub step_is : (ws : List ℤ) (d at what : ℕ) (node : Node) → node_of what (tag_at ws at) ≡ node → written ws (suc d) at what ≡ within ws (written ws d) at what node
unfolding written
step_is ws d at what node h = ap (within ws (written ws d) at what) h

pub no_bracket : (own what k : ℕ) → what % 8 ≤ own → bracket own what k ≡ []
unfolding bracket
no_bracket own what k h = rw (le-ltb own (what % 8) h)

-- ---- A node, by its fields.
module _ (ws : List ℤ) (f : (at what : ℕ) → Written) (at what : ℕ) (node : Node) (b : at < length ws) where
  -- No parts.
  pub leaf_node : (lc : Operands) → node.level ≡ 7 → what % 8 ≤ 7 → node.operands ≡ lc → node.parts ≡ Some 0
      → within ws f at what node ≡ record { inks = (optional (node.begins) ++ leaf ws at lc) ++ (optional (node.ends) ++ []); end = at + head_of lc (Some 0) }
  unfolding within front behind parts count_of
  leaf_node lc h l i j = rw (h, i, j, no_bracket 7 what 6 l, no_bracket 7 what 7 l, ahead_is ws at (head_of lc (Some 0)) b)

  -- Two parts, a sign between them.
  pub pair_node : (own p q : ℕ) (s : Option Kind) → node.level ≡ own → node.begins ≡ None → node.operands ≡ Nothing → node.parts ≡ Some 2 → node.first ≡ p
      → node.others ≡ q → node.between ≡ s → node.ends ≡ None
      → within ws f at what node ≡ record {
        inks = (bracket own what 6 ++ []) ++ (((f (at + 1) p).inks ++ (optional s ++ ((f (f (at + 1) p).end q).inks ++ []))) ++ bracket own what 7);
        end = (f (f (at + 1) p).end q).end;
      }
  unfolding within front behind parts count_of head_of optional leaf number_of
  pair_node own p q s c d e g h i j k = rw (c, d, e, g, h, i, j, k, ahead_is ws at 1 b)

  -- A word, and one part.
  pub word_node : (own : ℕ) (w : Option Kind) (p : ℕ) → node.level ≡ own → node.begins ≡ w → node.operands ≡ Nothing → node.parts ≡ Some 1 → node.first ≡ p → node.ends ≡ None
      → within ws f at what node ≡ record { inks = (bracket own what 6 ++ (optional w ++ [])) ++ (((f (at + 1) p).inks ++ []) ++ bracket own what 7); end = (f (at + 1) p).end }
  unfolding within front behind parts count_of head_of optional leaf number_of
  word_node own w p c d e g h i = rw (c, d, e, g, h, i, ahead_is ws at 1 b)

  -- As many parts as the next word says.
  pub many_node : (w : Option Kind) (p : ℕ) (c : Option Kind) (n : ℕ) → node.level ≡ 7 → what % 8 ≤ 7 → node.begins ≡ w → node.operands ≡ Nothing → node.parts ≡ None → node.first ≡ p
      → node.others ≡ p → node.between ≡ Some Comma → node.ends ≡ c → bits_at ws at 1 ≡ n → n < 256
      → within ws f at what node ≡ record { inks = (optional w ++ []) ++ ((parts f p (Some Comma) n (at + 2) p None).inks ++ (optional c ++ [])); end = (parts f p (Some Comma) n (at + 2) p None).end }
  unfolding within front behind count_of head_of leaf
  many_node w p c n h l i j k m o q r s t = let e : n % 256 ≡ n = omega arith in rw (h, i, j, k, m, o, q, r, no_bracket 7 what 6 l, no_bracket 7 what 7 l, s, e, ahead_is ws at 2 b)
