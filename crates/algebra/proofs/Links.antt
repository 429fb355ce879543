-- Where the dates of letters are linked, so are those of every term; a kind is linked to itself by sameness.
-- Assumes nothing.
use Rattle.std.proofs.Common.{◌≡◌, Bool, true, false, cond, not, ◌&&◌, T, refl, ap, subst, ap₂, inl, inr}
use Rattle.algebra.specs.Kinds.{Kind, Same}
use Rattle.algebra.specs.Links.{Link, LinkedDates}
use Rattle.algebra.specs.Terms.{Term, leaf, never, node, joined, date, inst}
use Rattle.algebra.specs.declared.Operator.{Operator}
use Rattle.algebra.specs.declared.Operator.TheVariants.{Or, And, Before, Simultaneous, Inclusive}
use Rattle.algebra.proofs.Tests.{bool_ext}

pub either : {D E : Type 0} (R : D → E → Type 0) (a b : Bool) → a ≡ b → (p : D) (p' : E) (q : D) (q' : E) → R p p' → R q q' → R (cond a p q) (cond b p' q')
either R a b e p p' q q' h k =
    subst (λ (c : Bool). R (cond a p q) (cond c p' q')) e
    (elim a as (λ c. R (cond c p q) (cond c p' q')) [ true ↦ h | false ↦ k ])

module _ {D E : Type 0} (K : Kind D) (L : Kind E) (R : D → E → Type 0) (link : Link K L R) where
  pub joined_linked : (o : Operator) (p : D) (p' : E) (q : D) (q' : E) → R p p' → R q q' → R (joined K o p q) (joined L o p' q')
  joined_linked Or p p' q q' h k = either R _ _ (ap not (link.orders p p' q q' h k)) q q' p p' k h
  joined_linked And p p' q q' h k = either R _ _ (ap not (link.orders q q' p p' k h)) q q' p p' k h
  joined_linked Before p p' q q' h k = either R _ _ (ap not (link.orders q q' p p' k h)) p p' _ _ h link.nevers
  joined_linked Simultaneous p p' q q' h k =
      either R _ _ (ap₂ ◌&&◌ (link.orders p p' q q' h k) (link.orders q q' p p' k h)) p p' _ _ h link.nevers
  joined_linked Inclusive p p' q q' h k = either R _ _ (link.orders p p' q q' h k) p p' _ _ h link.nevers

  pub linked : {V : Type 0} (d : V → D) (e : V → E) → ((v : V) → R (d v) (e v)) → (t : Term V) → R (date K d t) (date L e t)
  linked d e h (leaf v) = h v
  linked d e h never = link.nevers
  linked d e h (node o l r) = joined_linked o _ _ _ _ (linked d e h l) (linked d e h r)

pub linked_dates : {D E : Type 0} (K : Kind D) (L : Kind E) → LinkedDates K L
linked_dates K L R link d e h t = linked K L (λ p q. T (R p q)) link d e h t

module _ {D : Type 0} (K : Kind D) where
  pub no_later_itself : (p : D) → T (K.no_later p p)
  no_later_itself p = elim (K.total p p) [ inl h ↦ h | inr h ↦ h ]

  pub same_itself : (p : D) → Same K p p
  same_itself p = record { fore = no_later_itself p; back = no_later_itself p }

  pub same_back : (p q : D) → Same K p q → Same K q p
  same_back p q h = record { fore = h.back; back = h.fore }

  pub same_trans : (p q r : D) → Same K p q → Same K q r → Same K p r
  same_trans p q r h k = record { fore = K.trans p q r h.fore k.fore; back = K.trans r q p k.back h.back }

  -- a kind is linked to itself by sameness
  pub same_link : Link K K (Same K)
  same_link = record {
    nevers = same_itself K.never;
    orders = λ p p' q q' h k.
        bool_ext _ _
        (λ t. K.trans p' q q' (K.trans p' p q h.back t) k.fore)
        (λ t. K.trans p q' q (K.trans p p' q' h.fore t) k.back);
  }

  -- a term for each letter is a date for each letter
  pub date_inst : {V W : Type 0} (d : W → D) (σ : V → Term W) (t : Term V) → date K d (inst σ t) ≡ date K (λ v. date K d (σ v)) t
  date_inst d σ (leaf v) = refl
  date_inst d σ never = refl
  date_inst d σ (node o l r) = ap₂ (joined K o) (date_inst d σ l) (date_inst d σ r)
