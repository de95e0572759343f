-- The grants of ballots, from the newest to the oldest.
use Rattle.std.proofs.Common.{◌≡◌, ◌<◌, ◌≤◌, ℕ, List, [], ◌∷◌, refl, sym, ap, ◌∙◌, inl, inr, arith}
use Rattle.run_theory.specs.Lists.{IsIn}
use Rattle.view_laws.specs.Ballots.{Ballots, Granted}
use Rattle.view_laws.specs.Orderly.{AreGrants, IsNextGrant}

abbrev number_of : Granted → ℕ
number_of grant = grant.number

-- two grants that follow each other, where the number rises
pub record Rise (b : Ballots) (above below : Granted) (all : List Granted) : Type 0 where
  pub grant : Granted
  pub last : Granted
  pub older : List Granted
  pub are : AreGrants b (grant ∷ last ∷ older)
  pub number : grant.number ≡ above.number
  pub members : grant.members ≡ above.members
  pub rises : last.number < grant.number
  pub there : IsIn last all
  pub left : IsIn below (last ∷ older)

module _ (b : Ballots) where
  next_falls : (last grant : Granted) → IsNextGrant last grant → last.number ≤ grant.number
  next_falls last grant (inl h) = omega (arith, h.0)
  next_falls last grant (inr h) = omega (arith, h.0)

  pub grants_fall : (newest : Granted) (older : List Granted) → AreGrants b (newest ∷ older) → (grant : Granted)
      → IsIn grant (newest ∷ older) → grant.number ≤ newest.number
  grants_fall newest older are grant (inl is) = omega (arith, ap number_of is)
  grants_fall newest [] are grant (inr i) = absurd i
  grants_fall newest (last ∷ older) are grant (inr i) =
      omega (arith, grants_fall last older are.2 grant i, next_falls last newest are.1)

  -- the members of a grant are those of the newest, where that has the same number
  newest_same : (newest : Granted) (older : List Granted) → AreGrants b (newest ∷ older) → (grant : Granted)
      → IsIn grant (newest ∷ older) → grant.number ≡ newest.number → grant.members ≡ newest.members
  newest_same newest older are grant (inl is) same = ap (λ (g : Granted). g.members) is
  newest_same newest [] are grant (inr i) same = absurd i
  newest_same newest (last ∷ older) are grant (inr i) same =
      by are.1 (grants_fall last older are.2 grant i) (newest_same last older are.2 grant i)
    where
      by : IsNextGrant last newest → grant.number ≤ last.number
          → (grant.number ≡ last.number → grant.members ≡ last.members) → grant.members ≡ newest.members
      by (inl h) low like = absurd (omega (arith, h.0, low, same))
      by (inr h) low like = like (same ∙ h.0) ∙ sym h.1

  -- two grants of one number have the same members
  pub grants_same : (all : List Granted) → AreGrants b all → (one other : Granted) → IsIn one all → IsIn other all
      → one.number ≡ other.number → one.members ≡ other.members
  grants_same [] are one other i j same = absurd i
  grants_same (newest ∷ older) are one other (inl is) j same =
      ap (λ (g : Granted). g.members) is
      ∙ sym (newest_same newest older are other j (sym same ∙ ap number_of is))
  grants_same (newest ∷ older) are one other (inr i) (inl like) same =
      newest_same newest older are one (inr i) (same ∙ ap number_of like) ∙ ap (λ (g : Granted). g.members) (sym like)
  grants_same (newest ∷ []) are one other (inr i) (inr j) same = absurd i
  grants_same (newest ∷ last ∷ older) are one other (inr i) (inr j) same =
      grants_same (last ∷ older) are.2 one other i j same

  longer : (above below newest : Granted) (older : List Granted) → Rise b above below older
      → Rise b above below (newest ∷ older)
  longer above below newest older rise = record {
    grant = rise.grant;
    last = rise.last;
    older = rise.older;
    are = rise.are;
    number = rise.number;
    members = rise.members;
    rises = rise.rises;
    there = inr rise.there;
    left = rise.left;
  }

  -- from a grant down to one of a lesser number: the first one whose number is less stands right behind one that has
  -- the number and the members of that grant
  pub rise : (all : List Granted) → AreGrants b all → (above below : Granted) → IsIn above all → IsIn below all
      → below.number < above.number → Rise b above below all
  rise [] are above below i j less = absurd i
  rise (newest ∷ []) are above below (inl is) (inl like) less =
      absurd (omega (arith, less, ap number_of is, ap number_of like))
  rise (newest ∷ []) are above below (inl is) (inr j) less = absurd j
  rise (newest ∷ []) are above below (inr i) j less = absurd i
  rise (newest ∷ last ∷ older) are above below (inr i) (inr j) less =
      longer above below newest (last ∷ older) (rise (last ∷ older) are.2 above below i j less)
  rise (newest ∷ last ∷ older) are above below (inr i) (inl like) less =
      absurd (omega (arith, less, grants_fall newest (last ∷ older) are above (inr i), ap number_of like))
  rise (newest ∷ last ∷ older) are above below (inl is) (inl like) less =
      absurd (omega (arith, less, ap number_of is, ap number_of like))
  rise (newest ∷ last ∷ older) are above below (inl is) (inr j) less =
      by are.1 (λ under. rise (last ∷ older) are.2 last below (inl refl) j under)
    where
      by : IsNextGrant last newest → (below.number < last.number → Rise b last below (last ∷ older))
          → Rise b above below (newest ∷ last ∷ older)
      by (inl h) rest = record {
        grant = newest;
        last = last;
        older = older;
        are = are;
        number = ap number_of (sym is);
        members = ap (λ (g : Granted). g.members) (sym is);
        rises = h.0;
        there = inr (inl refl);
        left = j;
      }
      by (inr h) rest =
          let r = rest (omega (arith, less, ap number_of is, h.0)) in
          longer above below newest (last ∷ older) (record {
            grant = r.grant;
            last = r.last;
            older = r.older;
            are = r.are;
            number = r.number ∙ (sym h.0 ∙ ap number_of (sym is));
            members = r.members ∙ (sym h.1 ∙ ap (λ (g : Granted). g.members) (sym is));
            rises = r.rises;
            there = r.there;
            left = r.left;
          })
