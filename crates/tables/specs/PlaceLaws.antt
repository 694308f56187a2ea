-- Laws of the places: what is read from a section is what stands in the list, and a number that is put in one section leaves the others.
use Rattle.std.specs.Prelude.{ℕ, ◌+◌, ◌*◌, ◌<◌, ◌≡◌, refl, List, get_or, set, replicate}
use native.Mathlib.Omega.{arith}
use Rattle.std.proofs.Math.Path.{sym}
use Rattle.std.proofs.Common.{◌∙◌, length-set}
use Rattle.std.proofs.lemmas.List.{length-replicate}
use Rattle.tables.specs.Section.{section_at, section_put, section_after, section_before, section_long}
use Rattle.tables.specs.Place.{value_count, Sections, sections_of, Whole, put_end, put_base, put_place, no_places}

module _ (t : List ℕ) (i : ℕ) (h : i < value_count) where
  pub end_is : get_or t i 0 ≡ get_or (sections_of t).ends i 0
  unfolding sections_of
  end_is = let e : 0 + i ≡ i = omega arith in sym (rw e at (section_at value_count 0 t i h))

  pub base_is : get_or t (value_count + i) 0 ≡ get_or (sections_of t).bases i 0
  unfolding sections_of
  base_is = sym (section_at value_count 1 t i h)

  pub place_is : get_or t (2 * value_count + i) 0 ≡ get_or (sections_of t).places i 0
  unfolding sections_of
  place_is = sym (section_at value_count 2 t i h)

  module _ (v : ℕ) where
    pub end_put : sections_of (set t i v) ≡ put_end i v (sections_of t)
    unfolding sections_of put_end
    end_put =
        let e : 0 + i ≡ i = omega arith in
        rw (
          (rw e at (section_put value_count 0 t i v h)),
          section_after value_count 1 t i v (omega arith),
          section_after value_count 2 t i v (omega arith),
        )

    pub base_put : sections_of (set t (value_count + i) v) ≡ put_base i v (sections_of t)
    unfolding sections_of put_base
    base_put =
        rw (
          section_before value_count 0 t (value_count + i) v (omega arith),
          section_put value_count 1 t i v h,
          section_after value_count 2 t (value_count + i) v (omega arith),
        )

    pub place_put : sections_of (set t (2 * value_count + i) v) ≡ put_place i v (sections_of t)
    unfolding sections_of put_place
    place_put =
        rw (
          section_before value_count 0 t (2 * value_count + i) v (omega arith),
          section_before value_count 1 t (2 * value_count + i) v (omega arith),
          section_put value_count 2 t i v h,
        )

-- Each section stays whole.
pub end_whole : (i v : ℕ) (x y : Sections) → y ≡ put_end i v x → Whole x → Whole y
unfolding put_end
end_whole i v x y e w = rw e (record { ends = length-set x.ends i v ∙ w.ends; bases = w.bases; places = w.places })

pub base_whole : (i v : ℕ) (x y : Sections) → y ≡ put_base i v x → Whole x → Whole y
unfolding put_base
base_whole i v x y e w = rw e (record { ends = w.ends; bases = length-set x.bases i v ∙ w.bases; places = w.places })

pub place_whole : (j v : ℕ) (x y : Sections) → y ≡ put_place j v x → Whole x → Whole y
unfolding put_place
place_whole j v x y e w = rw e (record { ends = w.ends; bases = w.bases; places = length-set x.places j v ∙ w.places })

whole_zeros : (k : ℕ) → k ≡ 3 * value_count → Whole (sections_of (replicate k 0))
unfolding sections_of
whole_zeros k e =
    let l = length-replicate {A = ℕ} k 0 in
    record {
      ends = section_long value_count 0 (replicate k 0) (omega arith);
      bases = section_long value_count 1 (replicate k 0) (omega arith);
      places = section_long value_count 2 (replicate k 0) (omega arith);
    }

pub no_places_lem : (t : List ℕ) → t ≡ no_places → Whole (sections_of t)
no_places_lem t e = rw e (whole_zeros (3 * value_count) refl)
