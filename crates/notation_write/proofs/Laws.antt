-- Writing, as the code asks. Assumes nothing.
use Rattle.std.proofs.Common.{◌≡◌, ℕ, suc, ◌*◌, ◌+◌, ◌/◌, ◌%◌, List, [], ◌∷◌, ◌++◌, get_or, Option, None, refl, sym, ap, ◌∙◌, arith}
use Rattle.std.proofs.lemmas.List.{get_or_default}
use lib.IntN.{ℤ}
use Rattle.words.specs.Words.{tag_at}
use Rattle.notation_print.specs.Pages.{page}
use Rattle.notation_print.specs.Inks.{Sheet, sheet, draw}
use Rattle.notation_write.specs.Written.{nodes, no_tag, node_of, ahead, head_of, count_of, Ink, ink, draws, optional, front, behind, Written, parts, within, written, units_inks, rule_inks}
use Rattle.notation_print.specs.declared.Kind.{Kind}
use Rattle.notation_write.specs.declared.Node.{Node}

-- ---- The table.
pub node_at : (xs : List Node) (what tag : ℕ) (d : Node) → xs ≡ nodes → get_or xs ((what % 24 / 8 * 11 + tag % 11) % 33) d ≡ node_of what tag
unfolding node_of
node_at xs what tag d e = ap (λ m. get_or m ((what % 24 / 8 * 11 + tag % 11) % 33) d) e ∙ get_or_default nodes ((what % 24 / 8 * 11 + tag % 11) % 33) d no_tag (omega arith)

-- ---- Tokens behind one another.
pub draws_append : (s : Sheet) (xs ys : List Ink) → draws s (xs ++ ys) ≡ draws (draws s xs) ys
unfolding draws
draws_append s [] ys = refl
draws_append s (ink k v ∷ xs) ys = draws_append (draw s k v) xs ys

pub ruleset append_rules = (draws_append)

pub on_page : (bytes : List ℕ) (at last : ℕ) (s : Sheet) → sheet bytes at last ≡ s → page bytes at ≡ s.on
unfolding sheet
on_page bytes at last s e = ap (λ x. x.on) e

-- ---- Parts one by one: of those left the first is written, or none is left.
module _ (ws : List ℤ) (d rest : ℕ) (sep : Option Kind) (left e part : ℕ) (first : Option Kind) where
  pub parts_next : (m i : ℕ) (x s q n : Sheet) → left ≡ suc m → draws s (parts (written ws d) rest sep left e part first).inks ≡ x → i ≡ (written ws d e part).end → q ≡ draws s (optional first)
      → n ≡ draws q (written ws d e part).inks → draws n (parts (written ws d) rest sep m i rest sep).inks ≡ x
  unfolding parts
  parts_next m i x s q n l a k b c =
      let w = written ws d e part in
      let p = parts (written ws d) rest sep m w.end rest sep in
      rw (c, b, k)
      (sym (draws_append (draws s (optional first)) w.inks p.inks) ∙ sym (draws_append s (optional first) (w.inks ++ p.inks)) ∙ sym (ap (λ j. draws s (parts (written ws d) rest sep j e part first).inks) l) ∙ a)

  pub parts_next_end : (m i x : ℕ) → left ≡ suc m → (parts (written ws d) rest sep left e part first).end ≡ x → i ≡ (written ws d e part).end → (parts (written ws d) rest sep m i rest sep).end ≡ x
  unfolding parts
  parts_next_end m i x l a k = rw k (sym (ap (λ j. (parts (written ws d) rest sep j e part first).end) l) ∙ a)

  pub parts_none : (x s : Sheet) → left ≡ 0 → draws s (parts (written ws d) rest sep left e part first).inks ≡ x → s ≡ x
  unfolding parts draws
  parts_none x s l a = sym (ap (λ j. draws s (parts (written ws d) rest sep j e part first).inks) l) ∙ a

  pub parts_none_end : (x : ℕ) → left ≡ 0 → (parts (written ws d) rest sep left e part first).end ≡ x → e ≡ x
  unfolding parts
  parts_none_end x l a = sym (ap (λ j. (parts (written ws d) rest sep j e part first).end) l) ∙ a

-- ---- Nothing, where no tag may stand.
module _ (ws : List ℤ) (depth at what : ℕ) (e : depth ≡ 0) where
  pub written_nothing : (s : Sheet) → s ≡ draws s (written ws depth at what).inks
  unfolding written draws
  written_nothing s = rw e

  pub written_nowhere : at ≡ (written ws depth at what).end
  unfolding written
  written_nowhere = rw e

-- ---- The whole: what stands before the parts, the parts, and what stands behind them.
module _ (ws : List ℤ) (depth m at what count head e tag : ℕ) (node : Node) (l : depth ≡ suc m) (t : tag ≡ tag_at ws at) (n : node ≡ node_of what tag)
    (c : count ≡ count_of ws at node.parts) (h : head ≡ head_of node.operands node.parts) (a : e ≡ ahead ws at head) where
  all_parts : Written
  all_parts = parts (written ws m) node.others node.between count e node.first None

  within_is : written ws depth at what ≡ record { inks = front ws at what node ++ (all_parts.inks ++ behind what node); end = all_parts.end }
  unfolding written within all_parts
  within_is = rw (l, c, a, h, n, t)

  pub written_drawn : (s p z r : Sheet) → p ≡ draws s (front ws at what node) → z ≡ draws p (parts (written ws m) node.others node.between count e node.first None).inks
      → r ≡ draws z (behind what node) → r ≡ draws s (written ws depth at what).inks
  unfolding all_parts
  written_drawn s p z r x y w =
      w ∙ ap (λ k. draws k (behind what node)) (y ∙ ap (λ k. draws k all_parts.inks) x)
      ∙ sym (ap (λ k. draws s k.inks) within_is ∙ draws_append s (front ws at what node) (all_parts.inks ++ behind what node) ∙ draws_append (draws s (front ws at what node)) all_parts.inks (behind what node))

  pub written_ends : (x : ℕ) → x ≡ (parts (written ws m) node.others node.between count e node.first None).end → x ≡ (written ws depth at what).end
  unfolding all_parts
  written_ends x y = y ∙ sym (ap (λ k. k.end) within_is)

-- ---- A rule.
rule_joined : (s p q m r t : Sheet) (us ms ps : List Ink) → p ≡ draws s us → q ≡ draw p 15 0 → m ≡ draws q ms → r ≡ draw m 16 0 → t ≡ draws r ps → t ≡ draws s (us ++ (ink 15 0 ∷ (ms ++ (ink 16 0 ∷ ps))))
unfolding draws
rule_joined s p q m r t us ms ps a b c d e =
    e ∙ ap (λ k. draws k ps) (d ∙ ap (λ k. draw k 16 0) (c ∙ ap (λ k. draws k ms) (b ∙ ap (λ k. draw k 15 0) a)))
    ∙ sym (draws_append s us (ink 15 0 ∷ (ms ++ (ink 16 0 ∷ ps))) ∙ draws_append (draw (draws s us) 15 0) ms (ink 16 0 ∷ ps))

pub rule_put : (ms ps ts : List ℤ) (s p q m r t : Sheet) → p ≡ draws s (units_inks ts) → q ≡ draw p 15 0 → m ≡ draws q (written ms 5 0 9).inks → r ≡ draw m 16 0 → t ≡ draws r (written ps 256 0 1).inks
    → t ≡ draws s (rule_inks ms ps ts)
unfolding rule_inks
rule_put ms ps ts s p q m r t = rule_joined s p q m r t (units_inks ts) (written ms 5 0 9).inks (written ps 256 0 1).inks
