-- Document 02, No. 9: the second form of a row tells which units earned it.
use Rattle.std.specs.Prelude.{ℕ, ◌≡◌, List, ℤ}
use Rattle.std.proofs.Math.Path.{ap}
use Rattle.std.proofs.Math.Option.{Option, none, some}
use Rattle.rules.specs.Forms.{Value}
use Rattle.rules.specs.Dialects.{Dialect}
use Rattle.rules.specs.Origins.{Valueᵒ, Bindings}
use Rattle.rules.specs.Rows.{Form, as_origins, form_of, row}
use Rattle.rules.specs.Ways.{Way, Good}
use Rattle.rules.specs.Services.{Matched, accepted, Rule, rule_of, target_of, turned_away, match_in, match_with}
use Rattle.forms.specs.Lists.{Mem}
use Rattle.forms.specs.Faults.{sane_exactly}
use Rattle.forms.proofs.ReadTarget.{target_read}
use Rattle.promises.specs.Origins.{PointsBack}
use Rattle.promises.specs.Bindings.{bindings_point_back}
use Rattle.promises.specs.Telling.{Tells}
use Rattle.promises.proofs.Telling.{ways_told}

module _ (ms ps ts : List ℤ) (r : Rule) (v : Value) (rule : rule_of ms ps ≡ accepted r) (target : target_of r.matcher ts ≡ accepted v) where
  -- Each value that a row tells points back: at its index stands a value of the target, of which its marks leave this one. (Form 1 tells the value's words,
  -- form 2 that index and those marks: `Rows.told`.)
  pub points_back : (dialect : Dialect) (w : Way) (e : Bindings) → Good dialect r.matcher r.pattern v w e → (u : Valueᵒ) → Mem u e → PointsBack ts u
  points_back dialect w e g =
      bindings_point_back dialect ts r.matcher r.pattern v w e ((target_read ts v).0 ((sane_exactly ms ps ts r v).0 (rule, target)).target.target).0 g

-- Where every multiset cons has a variable as its first part and there is no join and no or, ways with the same row in form 2 are the same.
pub ways_told_apart : (dialect : Dialect) (r : Rule) (v : Value) → Tells r.pattern r.matcher → (u w : Way) (c d : Bindings) → Good dialect r.matcher r.pattern v u c
    → Good dialect r.matcher r.pattern v w d → row as_origins c ≡ row as_origins d → u ≡ w
ways_told_apart dialect r v = ways_told dialect r.matcher r.pattern v

-- Match told the form: 20 where there is no such form, before any other look; else match in that form.
module _ (n : ℕ) (ms ps ts : List ℤ) (budget : ℕ) (room : List ℤ) where
  pub unknown_form : form_of n ≡ none → match_with n ms ps ts budget room ≡ turned_away 20 0 0 room
  unfolding match_with
  unknown_form e = ap (λ (o : Option Form). elim o as (λ _. Matched) [ none ↦ turned_away 20 0 0 room | some f ↦ match_in f ms ps ts budget room ]) e

  pub known_form : (f : Form) → form_of n ≡ some f → match_with n ms ps ts budget room ≡ match_in f ms ps ts budget room
  unfolding match_with
  known_form f e = ap (λ (o : Option Form). elim o as (λ _. Matched) [ none ↦ turned_away 20 0 0 room | some f ↦ match_in f ms ps ts budget room ]) e
