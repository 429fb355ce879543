-- What words say a step.
-- Assumes nothing.
use Rattle.std.proofs.Common.{◌≡◌, ℕ, ◌-◌, ◌<◌, List, [], ◌∷◌, map, length, get_or, take, drop, Some, None, codes, Option, sym, refl, ap, ◌∙◌, subst, inl, inr, arith, Bor, Bool, true, false, eqb, MatchOption}
use Rattle.std.proofs.lemmas.Bool.{eqb-true, eqb-false}
use Rattle.std.specs.Bool.{then_some}
use Rattle.algebra.specs.Rules.{variable_byte}
use Rattle.std.proofs.lemmas.List.{take_rest}
use Rattle.algebra.specs.declared.Variable.{Variable}
use Rattle.algebra.specs.declared.Variable.TheVariants.{X, Y, Z}
use Rattle.algebra.specs.declared.Way.{Way}
use Rattle.algebra.specs.declared.Way.TheVariants.{Forward, Backward}
use Rattle.steps.specs.Records.{Request}
use Rattle.notation.specs.Numbers.{Number}
use Rattle.notation.specs.Steps.{WayWords, PlaceWords, TermWords, StepWords, OneStep, term_word}
use Rattle.notation.proofs.Naming.{one_number}

-- BORROWED WORDS

pub no_words : (ws : List (Bor (List ℕ))) → length ws < 1 → map (λ x. x.now) ws ≡ []
no_words [] h = refl
no_words (w ∷ ws) h = absurd (omega arith)

pub first_rest : (ws : List (Bor (List ℕ))) (d : Bor (List ℕ)) → 0 < length ws → map (λ x. x.now) ws ≡ (get_or ws 0 d).now ∷ map (λ x. x.now) (take (length ws - 1) (drop 1 ws))
first_rest [] d h = absurd (omega arith)
first_rest (w ∷ ws) d h = ap (λ (x : List (Bor (List ℕ))). w.now ∷ map (λ x. x.now) x) (sym (take_rest (w ∷ ws) 1))

pub two_front : (w : List ℕ) (a b : ℕ) → 1 < length w → get_or w 0 0 ≡ a → get_or w 1 0 ≡ b → w ≡ a ∷ b ∷ take (length w - 2) (drop 2 w)
two_front [] a b h e f = absurd (omega arith)
two_front (c ∷ []) a b h e f = absurd (omega arith)
two_front (c ∷ d ∷ w) a b h e f = λ i. e i ∷ f i ∷ sym (take_rest (c ∷ d ∷ w) 2) i

-- a word begins with a letter and an equals sign, or supplies nothing for it
pub supplied : (v : Variable) (w : List ℕ) (term : Bor (List ℕ)) (byte : ℕ) → byte ≡ variable_byte v → 1 < length w → get_or w 1 0 ≡ 61 → term.now ≡ take (length w - 2) (drop 2 w) → MatchOption (then_some (eqb (get_or w 0 0) byte) term) ((t : List ℕ) → w ≡ term_word v t → ⊥) (λ t. w ≡ term_word v t.now)
supplied v w term byte e h f r = go (eqb (get_or w 0 0) byte) refl
  where
    go : (b : Bool) → eqb (get_or w 0 0) byte ≡ b → MatchOption (then_some b term) ((t : List ℕ) → w ≡ term_word v t → ⊥) (λ t. w ≡ term_word v t.now)
    go true g = two_front w (variable_byte v) 61 h (eqb-true _ _ g ∙ e) f ∙ ap (λ (t : List ℕ). term_word v t) (sym r)
    go false g = λ t x. eqb-false _ _ g (ap (λ (y : List ℕ). get_or y 0 0) x ∙ sym e)

-- EACH PART IS SAID IN ONE WAY

abbrev head : List (List ℕ) → List ℕ
head ws = get_or ws 0 []

abbrev tail : List (List ℕ) → List (List ℕ)
tail ws = drop 1 ws

same_tail : (ws : List (List ℕ)) {a b : List ℕ} {r s : List (List ℕ)} → ws ≡ a ∷ r → ws ≡ b ∷ s → r ≡ s
same_tail ws e f = ap tail (sym e ∙ f)

same_head : (ws : List (List ℕ)) {a b : List ℕ} {r s : List (List ℕ)} → ws ≡ a ∷ r → ws ≡ b ∷ s → a ≡ b
same_head ws e f = ap head (sym e ∙ f)

way_one : (ws : List (List ℕ)) (v w : Way) (r s : List (List ℕ)) → WayWords v ws r → WayWords w ws s → (v ≡ w) × (r ≡ s)
way_one ws Forward Forward r s a b = (refl, sym a.0 ∙ b.0)
way_one ws Forward Backward r s a b = absurd (a.1 s b)
way_one ws Backward Forward r s a b = absurd (b.1 r a)
way_one ws Backward Backward r s a b = (refl, same_tail ws a b)

place_one : (ws : List (List ℕ)) (p q : ℕ) (r s : List (List ℕ)) → PlaceWords p ws r → PlaceWords q ws s → (p ≡ q) × (r ≡ s)
place_one ws p q r s (inl a) (inl b) =
    let same = same_tail ws a.is b.is in (
      one_number b.digits p q (subst (λ (x : List ℕ). Number x p) (ap head same) a.number) b.number,
      ap tail same,
    )
place_one ws p q r s (inl a) (inr b) = absurd (b.other (a.digits ∷ r) a.is)
place_one ws p q r s (inr a) (inl b) = absurd (a.other (b.digits ∷ s) b.is)
place_one ws p q r s (inr a) (inr b) = (a.zero ∙ sym b.zero, sym a.same ∙ b.same)

term_one : (v : Variable) (ws : List (List ℕ)) (o u : Option (List ℕ)) (r s : List (List ℕ)) → TermWords v o ws r → TermWords v u ws s → (o ≡ u) × (r ≡ s)
term_one v ws None None r s a b = (refl, sym a.0 ∙ b.0)
term_one v ws None (Some t) r s a b = absurd (a.1 t s b)
term_one v ws (Some t) None r s a b = absurd (b.1 t r a)
term_one v ws (Some t) (Some u) r s a b = (ap (λ (x : List ℕ). Some (drop 2 x)) (same_head ws a b), same_tail ws a b)

-- PLACES

pub no_number : (ws rest after : List (List ℕ)) (w d : List ℕ) → ws ≡ w ∷ rest → w ≡ codes "at" → rest ≡ d ∷ after → ((n : ℕ) → n < 65536 → Number d n → ⊥) → (p : ℕ) (r : List (List ℕ)) → PlaceWords p ws r → ⊥
no_number ws rest after w d e f g h p r (inl a) =
    let same = same_tail ws a.is e ∙ g in
    h p a.few (subst (λ (x : List ℕ). Number x p) (ap head same) a.number)
no_number ws rest after w d e f g h p r (inr a) = a.other rest (e ∙ ap (λ (x : List ℕ). x ∷ rest) f)

-- THE WHOLE

pub one_step : (ws : List (List ℕ)) → OneStep ws
one_step ws p q a b =
    let rule = one_number b.rule p.rule q.rule (subst (λ (w : List ℕ). Number w p.rule) (same_head ws a.is b.is) a.number) b.number in
    let r₀ = same_tail ws a.is b.is in
    let way = way_one b.after_rule p.way q.way a.after_way b.after_way (subst (λ (r : List (List ℕ)). WayWords p.way r a.after_way) r₀ a.way) b.way in
    let place = place_one b.after_way p.place q.place a.after_place b.after_place (subst (λ (r : List (List ℕ)). PlaceWords p.place r a.after_place) way.1 a.place) b.place in
    let x = term_one X b.after_place p.x q.x a.after_x b.after_x (subst (λ (r : List (List ℕ)). TermWords X p.x r a.after_x) place.1 a.x) b.x in
    let y = term_one Y b.after_x p.y q.y a.after_y b.after_y (subst (λ (r : List (List ℕ)). TermWords Y p.y r a.after_y) x.1 a.y) b.y in
    let z = term_one Z b.after_y p.z q.z [] [] (subst (λ (r : List (List ℕ)). TermWords Z p.z r []) y.1 a.z) b.z in
    (λ i. record { rule = rule i; way = way.0 i; place = place.0 i; x = x.0 i; y = y.0 i; z = z.0 i })

pub no_step : (ws : List (List ℕ)) → ws ≡ [] → (q : Request) → StepWords q ws → ⊥
no_step ws e q s = omega (arith, ap length (sym e ∙ s.is))

pub no_rule_lem : (ws rest : List (List ℕ)) (w : List ℕ) → ws ≡ w ∷ rest → ((n : ℕ) → n < 256 → Number w n → ⊥) → (q : Request) → StepWords q ws → ⊥
no_rule_lem ws rest w e h q s = h q.rule s.few (subst (λ (x : List ℕ). Number x q.rule) (same_head ws s.is e) s.number)

module _ (ws : List (List ℕ)) (w : List ℕ) (r₀ r₁ : List (List ℕ)) (way : Way) (e : ws ≡ w ∷ r₀) (a : WayWords way r₀ r₁) where
  -- what any step of the words says of the way
  after_way_lem : (q : Request) → (s : StepWords q ws) → s.after_way ≡ r₁
  after_way_lem q s = (way_one r₀ q.way way s.after_way r₁ (subst (λ (r : List (List ℕ)). WayWords q.way r s.after_way) (same_tail ws s.is e) s.way) a).1

  pub no_place : ((p : ℕ) (r : List (List ℕ)) → PlaceWords p r₁ r → ⊥) → (q : Request) → StepWords q ws → ⊥
  no_place h q s = h q.place s.after_place (subst (λ (r : List (List ℕ)). PlaceWords q.place r s.after_place) (after_way_lem q s) s.place)

  module _ (r₂ r₃ r₄ r₅ : List (List ℕ)) (p : ℕ) (x y z : Option (List ℕ)) (b : PlaceWords p r₁ r₂) (c : TermWords X x r₂ r₃) (d : TermWords Y y r₃ r₄) (f : TermWords Z z r₄ r₅) where
    pub left_over_lem : 0 < length r₅ → (q : Request) → StepWords q ws → ⊥
    left_over_lem h q s =
        let e₂ = (place_one r₁ q.place p s.after_place r₂ (subst (λ (r : List (List ℕ)). PlaceWords q.place r s.after_place) (after_way_lem q s) s.place) b).1 in
        let e₃ = (term_one X r₂ q.x x s.after_x r₃ (subst (λ (r : List (List ℕ)). TermWords X q.x r s.after_x) e₂ s.x) c).1 in
        let e₄ = (term_one Y r₃ q.y y s.after_y r₄ (subst (λ (r : List (List ℕ)). TermWords Y q.y r s.after_y) e₃ s.y) d).1 in
        let e₅ = (term_one Z r₄ q.z z [] r₅ (subst (λ (r : List (List ℕ)). TermWords Z q.z r []) e₄ s.z) f).1 in
        omega (arith, ap length e₅)

    pub step_said : length r₅ ≡ 0 → (n : ℕ) → n < 256 → Number w n → StepWords (record { rule = n; way = way; place = p; x = x; y = y; z = z }) ws
    step_said h n k m = record {
      rule = w;
      after_rule = r₀;
      after_way = r₁;
      after_place = r₂;
      after_x = r₃;
      after_y = r₄;
      is = e;
      few = k;
      number = m;
      way = a;
      place = b;
      x = c;
      y = d;
      z = subst (TermWords Z z r₄) (nothing r₅ h) f;
    }
      where
        nothing : (r : List (List ℕ)) → length r ≡ 0 → r ≡ []
        nothing [] g = refl
        nothing (v ∷ r) g = absurd (omega arith)
