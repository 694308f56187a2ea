-- The patterns that are read have numbers and widths in the limits, and the names of the text, from left to right.
use Rattle.std.specs.Prelude.{ℕ, suc, ◌+◌, ◌≤◌, ◌≡◌, refl, true, List, [], ◌∷◌, length, T, ℤ, pos}
use Rattle.std.proofs.Common.{arith, ap, ◌∙◌}
use Rattle.rules.specs.Forms.{Pattern, constant, value, never, Patterns, no_patterns, ◌▸ᵖ◌, countᵖ}
use Rattle.rules.specs.Numbers.{in_range}
use Rattle.notation_rules.specs.Tokens.{Sign, consing, joining, anding, oring}
use Rattle.notation_rules.specs.Tokens.{Token, mark, sign, binds, uses, number, wrong, numeral}
use Rattle.notation_rules.specs.NamesBack.{Event, binding, citing, events, events_all, event}
use Rattle.notation_rules.specs.PatternsBack.{test}
use Rattle.notation_rules.specs.PatternsBack as B
use Rattle.notation_rules.specs.Patterns.{level, build, Frame, waiting, denied, opened, Place, want, bracket, hashed, negative, inner, named, signed, shutting, Mode, ◌on◌, have}
use Rattle.notation_rules.specs.Patterns as P
use Rattle.notation_rules.specs.KeptMachine.{OnStep, OnEnd, All, look_all, ranged_all, in_width}

-- ---- Patterns.
unfoldable pub FineList : List Pattern → Type 0
FineList [] = T true
FineList (q ∷ qs) = B.Fine q × FineList qs

unfoldable pub SoundFrames : List Frame → Type 0
unfolding FineList
SoundFrames [] = T true
SoundFrames (waiting s p ∷ fs) = B.Fine p × SoundFrames fs
SoundFrames (denied ∷ fs) = SoundFrames fs
SoundFrames (opened qs ∷ fs) = (FineList qs × length qs ≤ 3) × SoundFrames fs

unfoldable pub SoundPlace : Place → Type 0
SoundPlace want = T true
SoundPlace bracket = T true
SoundPlace hashed = T true
SoundPlace negative = T true
SoundPlace inner = T true
SoundPlace (named v) = T true
SoundPlace (signed v b) = T true
SoundPlace (shutting p) = B.Fine p

unfoldable pub Sound : Mode → Type 0
unfolding SoundFrames SoundPlace
Sound (x on fs) = SoundPlace x × SoundFrames fs
Sound (have p fs) = B.Fine p × SoundFrames fs

-- The names of what waits, of the place, of both.
unfoldable pub of_parts : List Pattern → List Event → List Event
unfolding events
of_parts [] es = es
of_parts (q ∷ qs) es = of_parts qs (events q es)

unfoldable pub of_frames : List Frame → List Event → List Event
unfolding of_parts events
of_frames [] es = es
of_frames (waiting s p ∷ fs) es = of_frames fs (events p es)
of_frames (denied ∷ fs) es = of_frames fs es
of_frames (opened qs ∷ fs) es = of_frames fs (of_parts qs es)

unfoldable pub of_place : Place → List Event → List Event
unfolding events
of_place want es = es
of_place bracket es = es
of_place hashed es = es
of_place negative es = es
of_place inner es = es
of_place (named v) es = citing v ∷ es
of_place (signed v b) es = citing v ∷ es
of_place (shutting p) es = events p es

unfoldable pub of_mode : Mode → List Event → List Event
unfolding of_frames of_place events
of_mode (x on fs) es = of_frames fs (of_place x es)
of_mode (have p fs) es = of_frames fs (events p es)

onto_fine : (qs : List Pattern) (ps : Patterns) → FineList qs → B.FineAll ps → B.FineAll (P.onto qs ps)
unfolding P.onto FineList B.FineAll
onto_fine [] ps h g = g
onto_fine (q ∷ qs) ps h g = onto_fine qs (q ▸ᵖ ps) h.1 (h.0, g)

onto_count : (qs : List Pattern) (ps : Patterns) → countᵖ (P.onto qs ps) ≡ length qs + countᵖ ps
unfolding P.onto countᵖ
onto_count [] ps = omega arith
onto_count (q ∷ qs) ps = let e : countᵖ (P.onto qs (q ▸ᵖ ps)) ≡ length qs + suc (countᵖ ps) = onto_count qs (q ▸ᵖ ps) in omega arith

onto_events : (qs : List Pattern) (ps : Patterns) (es : List Event) → events_all (P.onto qs ps) es ≡ of_parts qs (events_all ps es)
unfolding P.onto of_parts events_all
onto_events [] ps es = refl
onto_events (q ∷ qs) ps es = onto_events qs (q ▸ᵖ ps) es

grouped_fine : (qs : List Pattern) (p : Pattern) → FineList qs → length qs ≤ 3 → B.Fine p → B.Fine (P.grouped qs p)
unfolding P.grouped FineList B.Fine B.FineAll countᵖ
grouped_fine [] p h l g = g
grouped_fine (q ∷ qs) p h l g = let e : countᵖ (P.onto (q ∷ qs) (p ▸ᵖ no_patterns)) ≡ length (q ∷ qs) + 1 = onto_count (q ∷ qs) (p ▸ᵖ no_patterns) in
    (in_width (countᵖ (P.onto (q ∷ qs) (p ▸ᵖ no_patterns))) (omega arith) (omega arith), onto_fine (q ∷ qs) (p ▸ᵖ no_patterns) h (g, tt))

grouped_events : (qs : List Pattern) (p : Pattern) (es : List Event) → events (P.grouped qs p) es ≡ of_parts qs (events p es)
unfolding P.grouped of_parts events events_all
grouped_events [] p es = refl
grouped_events (q ∷ qs) p es = onto_events (q ∷ qs) (p ▸ᵖ no_patterns) es

build_fine : (s : Sign) (p q : Pattern) → B.Fine p → B.Fine q → B.Fine (build s p q)
unfolding build B.Fine
build_fine oring p q h g = (h, g)
build_fine anding p q h g = (h, g)
build_fine consing p q h g = (h, g)
build_fine joining p q h g = (h, g)

build_events : (s : Sign) (p q : Pattern) (es : List Event) → events (build s p q) es ≡ events p (events q es)
unfolding build events
build_events oring p q es = refl
build_events anding p q es = refl
build_events consing p q es = refl
build_events joining p q es = refl

-- What holds of every end of frames with the same names holds after a collapse.
collapse_all : {A : Type 0} (Q : A → Type 0) (l : ℕ) (k : Pattern → List Frame → A) (p : Pattern) (fs : List Frame) (to : List Event → List Event)
    → Sound (have p fs) → ((es : List Event) → of_mode (have p fs) es ≡ to es)
    → ((q : Pattern) (gs : List Frame) → Sound (have q gs) → ((es : List Event) → of_mode (have q gs) es ≡ to es) → Q (k q gs)) → Q (P.collapse l k p fs)
unfolding P.collapse P.depth P.finish Sound SoundFrames B.Fine of_mode of_frames events
collapse_all Q l k p [] to s e f = f p [] s e
collapse_all Q l k p (waiting r q ∷ fs) to s e f = test Q l (level r)
    (λ h. collapse_all Q l k (build r q p) fs to (build_fine r q p s.1.0 s.0, s.1.1) (λ es. ap (of_frames fs) (build_events r q p es) ∙ e es) f)
    (λ h. f p (waiting r q ∷ fs) s e)
collapse_all Q l k p (denied ∷ fs) to s e f = test Q l 4 (λ h. collapse_all Q l k (never p) fs to s e f) (λ h. f p (denied ∷ fs) s e)
collapse_all Q l k p (opened qs ∷ fs) to s e f = test Q l 0 (λ h. absurd (omega arith)) (λ h. f p (opened qs ∷ fs) s e)

-- Keeping, from the names `to` and a token's own.
abbrev Keeps : (List Event → List Event) → Mode → Type 0
Keeps to n = Sound n × ((es : List Event) → of_mode n es ≡ to es)

parted_all : (p : Pattern) (fs : List Frame) (to : List Event → List Event) → Sound (have p fs) → ((es : List Event) → of_mode (have p fs) es ≡ to es) → All (Keeps to) (P.parted p fs)
unfolding P.parted P.parts All Sound SoundFrames SoundPlace FineList of_mode of_frames of_parts of_place
parted_all p [] to s e = tt
parted_all p (waiting r q ∷ fs) to s e = tt
parted_all p (denied ∷ fs) to s e = tt
parted_all p (opened qs ∷ fs) to s e = (
  ((grouped_fine qs p s.1.0.0 s.1.0.1 s.0, s.1.1), λ es. ap (of_frames fs) (grouped_events qs p es) ∙ e es),
  test (λ x. All (Keeps to) (x ∷ [])) (suc (length qs)) 4 (λ h. (((tt, (((s.0, s.1.0.0), omega arith), s.1.1)), e), tt)) (λ h. tt),
)

after_all : (t : Token) (p : Pattern) (fs : List Frame) (to : List Event → List Event) → Sound (have p fs) → ((es : List Event) → of_mode (have p fs) es ≡ to es)
    → OnStep (λ n. Sound n × ((es : List Event) → of_mode n es ≡ to (event t es))) (P.after t p fs)
unfolding P.after OnStep event Sound SoundFrames SoundPlace of_mode of_frames of_place
after_all (mark m) p fs to s e = look_all (Keeps to) (P.parted p fs) m (parted_all p fs to s e)
after_all (sign r) p fs to s e = ((tt, (s.0, s.1)), e)
after_all (binds v) p fs to s e = tt
after_all (uses v) p fs to s e = tt
after_all (number n) p fs to s e = tt
after_all (wrong c) p fs to s e = tt

marks_all_lem : (x : Place) (fs : List Frame) → Sound (x on fs) → All (Keeps (of_mode (x on fs))) (P.at_mark x fs)
unfolding P.at_mark All Sound SoundFrames SoundPlace FineList B.Fine of_mode of_frames of_parts of_place events
marks_all_lem want fs s = (((tt, s.1), λ es. refl), (((tt, s.1), λ es. refl), (((tt, s.1), λ es. refl), (((tt, s.1), λ es. refl), (((tt, ((tt, omega arith), s.1)), λ es. refl), tt)))))
marks_all_lem bracket fs s = (((tt, s.1), λ es. refl), tt)
marks_all_lem hashed fs s = (((tt, s.1), λ es. refl), (((tt, s.1), λ es. refl), tt))
marks_all_lem negative fs s = tt
marks_all_lem inner fs s = tt
marks_all_lem (named v) fs s = (((tt, s.1), λ es. refl), (((tt, s.1), λ es. refl), tt))
marks_all_lem (signed v b) fs s = tt
marks_all_lem (shutting p) fs s = ((s, λ es. refl), tt)

binding_all : (x : Place) (fs : List Frame) (v : ℤ) → Sound (x on fs) → OnStep (λ n. Sound n × ((es : List Event) → of_mode n es ≡ of_mode (x on fs) (binding v ∷ es))) (P.at_binding x fs v)
unfolding P.at_binding OnStep Sound SoundPlace B.Fine of_mode of_place events
binding_all want fs v s = ((tt, s.1), λ es. refl)
binding_all bracket fs v s = tt
binding_all hashed fs v s = tt
binding_all negative fs v s = tt
binding_all inner fs v s = tt
binding_all (named u) fs v s = tt
binding_all (signed u b) fs v s = tt
binding_all (shutting p) fs v s = tt

use_all : (x : Place) (fs : List Frame) (v : ℤ) → Sound (x on fs) → OnStep (λ n. Sound n × ((es : List Event) → of_mode n es ≡ of_mode (x on fs) (citing v ∷ es))) (P.at_use x fs v)
unfolding P.at_use OnStep Sound SoundPlace B.Fine in_range of_mode of_place events
use_all want fs v s = tt
use_all bracket fs v s = tt
use_all hashed fs v s = ((tt, s.1), λ es. refl)
use_all negative fs v s = tt
use_all inner fs v s = ((tt, s.1), λ es. refl)
use_all (named u) fs v s = tt
use_all (signed u b) fs v s = tt
use_all (shutting p) fs v s = tt

number_all : (x : Place) (fs : List Frame) (n : ℕ) → Sound (x on fs) → OnStep (Keeps (of_mode (x on fs))) (P.at_number x fs n)
unfolding P.at_number OnStep Sound SoundPlace B.Fine of_mode of_place events
number_all want fs n s = tt
number_all bracket fs n s = tt
number_all hashed fs n s = ranged_all (Keeps (of_mode (hashed on fs))) (pos n) (have (constant (pos n)) fs) (λ h. ((h, s.1), λ es. refl))
number_all negative fs n s = ranged_all (Keeps (of_mode (negative on fs))) (numeral true n) (have (constant (numeral true n)) fs) (λ h. ((h, s.1), λ es. refl))
number_all inner fs n s = tt
number_all (named v) fs n s = tt
number_all (signed v b) fs n s = ranged_all (Keeps (of_mode (signed v b on fs))) (numeral b n) (shutting (value v (numeral b n)) on fs) (λ h. ((h, s.1), λ es. refl))
number_all (shutting p) fs n s = tt

pub stepping : (m : Mode) (t : Token) → Sound m → OnStep (λ n. Sound n × ((es : List Event) → of_mode n es ≡ of_mode m (event t es))) (P.take m t)
unfolding P.take OnStep event
stepping (have p fs) t s = collapse_all (OnStep (λ n. Sound n × ((es : List Event) → of_mode n es ≡ of_mode (have p fs) (event t es)))) (P.reach t) (P.after t) p fs (of_mode (have p fs)) s (λ es. refl)
    (λ q gs f e. after_all t q gs (of_mode (have p fs)) f e)
stepping (x on fs) (mark m) s = look_all (Keeps (of_mode (x on fs))) (P.at_mark x fs) m (marks_all_lem x fs s)
stepping (x on fs) (sign r) s = tt
stepping (x on fs) (binds v) s = binding_all x fs v s
stepping (x on fs) (uses v) s = use_all x fs v s
stepping (x on fs) (number n) s = number_all x fs n s
stepping (x on fs) (wrong c) s = tt

alone_all : (p : Pattern) (fs : List Frame) (to : List Event → List Event) → Sound (have p fs) → ((es : List Event) → of_mode (have p fs) es ≡ to es)
    → OnEnd (λ q. B.Fine q × ((es : List Event) → events q es ≡ to es)) (P.alone p fs)
unfolding P.alone OnEnd Sound of_mode of_frames
alone_all p [] to s e = (s.0, e)
alone_all p (f ∷ fs) to s e = tt

pub ends : (m : Mode) → Sound m → OnEnd (λ q. B.Fine q × ((es : List Event) → events q es ≡ of_mode m es)) (P.ending m)
unfolding P.ending OnEnd
ends (have p fs) s = collapse_all (OnEnd (λ q. B.Fine q × ((es : List Event) → events q es ≡ of_mode (have p fs) es))) 0 P.alone p fs (of_mode (have p fs)) s (λ es. refl)
    (λ q gs f e. alone_all q gs (of_mode (have p fs)) f e)
ends (x on fs) s = tt
