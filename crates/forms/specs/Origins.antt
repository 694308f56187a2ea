-- Values with their origin: without it they are the values that were placed.
use Rattle.std.specs.Prelude.{ℕ, suc, ◌+◌, ◌≡◌, refl}
use Rattle.std.proofs.Common.{ap, ap₂}
use Rattle.rules.specs.Forms.{Value, int, collection, tupled, Values, empty, ◌▸◌, size}
use Rattle.rules.specs.Origins.{plain, plain_all, placed, placed_all, target}

mutual
  unfolding plain placed

  pub plain_placed : (at k : ℕ) (v : Value) → plain (placed at k v) ≡ v
  plain_placed at k (int x) = refl
  plain_placed at k (collection vs) = ap collection (plain_placed_all (at + 2) 0 vs)
  plain_placed at k (tupled vs) = ap tupled (plain_placed_all (at + 2) 0 vs)

  pub plain_placed_all : (at k : ℕ) (vs : Values) → plain_all (placed_all at k vs) ≡ vs
  plain_placed_all at k empty = refl
  plain_placed_all at k (v ▸ vs) = ap₂ {C = Values} (λ w ws. w ▸ ws) (plain_placed at k v) (plain_placed_all (at + size v) (suc k) vs)

pub plain_target : (v : Value) → plain (target v) ≡ v
unfolding target
plain_target v = plain_placed 0 0 v
