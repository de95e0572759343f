-- What is gathered agrees with what was told.
use Rattle.std.proofs.Common.{◌≡◌, ◌∙◌, ◌⊎◌, inl, inr, ℕ, List, [], ◌∷◌, ◌++◌, refl, ap, sym, subst}
use Rattle.std.specs.Prelude.{Option, None, Some}
use Rattle.run_theory.specs.Lists.{Each}
use Rattle.run_theory.proofs.Pasts.{each_after, each_append, each_before, each_map}
use Rattle.sig_core.specs.declared.member.TxId.{TxId}
use Rattle.takeover_block.specs.declared.gathered.Gathered.{Gathered}
use Rattle.takeover_block.specs.Gathered.{first_epoch, noted, told_first, told_more}
use Rattle.takeover_block.specs.Laws.{IsTold, IsUntold, Telling, telling}
use Rattle.takeover_block.proofs.NotedLemmas.{Apart, Distinct, IsMore, IsNew, distinct_with, noted_is, others}

-- the epoch of a transaction is one that was told, and where it has none, none was
abbrev pub AgreesBy : List Telling → TxId → Option ℕ → Type 0
AgreesBy told tx (Some epoch) = IsTold told tx epoch
AgreesBy told tx None = IsUntold told tx

abbrev pub Agrees : List Telling → Gathered → Type 0
Agrees told g = AgreesBy told g.tx g.epoch

-- the transaction is among these
abbrev pub IsHere : List Gathered → TxId → Type 0
IsHere [] tx = ⊥
IsHere (g ∷ gs) tx = (g.tx ≡ tx) ⊎ IsHere gs tx

-- each transaction that was told of is gathered
abbrev pub Covers : List Gathered → List Telling → Type 0
Covers gs told = Each (λ t. IsHere gs t.tx) told

-- what is gathered is just what was told
pub record IsGathered (told : List Telling) (gs : List Gathered) : Type 0 where
  pub each : Each (Agrees told) gs
  pub distinct : Distinct gs

agrees_still : (told : List Telling) (t : Telling) (tx : TxId) (epoch : Option ℕ) → (tx ≡ t.tx → ⊥)
    → AgreesBy told tx epoch → AgreesBy (t ∷ told) tx epoch
agrees_still told t tx (Some epoch) apart a = inr a
agrees_still told t tx None apart a = ((λ same. absurd (apart (sym same))), a)

all_still : (told : List Telling) (t : Telling) (gs : List Gathered) → Apart t.tx gs → Each (Agrees told) gs
    → Each (Agrees (t ∷ told)) gs
all_still told t [] apart each = tt
all_still told t (g ∷ gs) apart each =
    (agrees_still told t g.tx g.epoch apart.0 each.0, all_still told t gs apart.1 each.1)

agrees_more : (told : List Telling) (tx own : TxId) (had epoch : Option ℕ) → own ≡ tx → AgreesBy told own had
    → AgreesBy (telling tx epoch ∷ told) own (first_epoch had epoch)
agrees_more told tx own (Some e) epoch same a = inr a
agrees_more told tx own None (Some e) same a = inl (ap (λ x. telling x (Some e)) same)
agrees_more told tx own None None same a = ((λ _. refl), a)

agrees_first : (told : List Telling) (tx : TxId) (epoch : Option ℕ) → IsUntold told tx
    → AgreesBy (telling tx epoch ∷ told) tx epoch
agrees_first told tx (Some e) untold = inl refl
agrees_first told tx None untold = ((λ _. refl), untold)

pub not_here : (tx : TxId) (gs : List Gathered) → Apart tx gs → IsHere gs tx → ⊥
not_here tx [] apart here = here
not_here tx (g ∷ gs) apart (inl own) = apart.0 own
not_here tx (g ∷ gs) apart (inr here) = not_here tx gs apart.1 here

untold_of : (tx : TxId) (gs : List Gathered) (told : List Telling) → Apart tx gs → Covers gs told → IsUntold told tx
untold_of tx gs told apart covers =
    each_map (λ t. IsHere gs t.tx) (λ t. t.tx ≡ tx → t.epoch ≡ None) told
    (λ t here same. absurd (not_here tx gs apart (subst (IsHere gs) same here))) covers

here_with : (tx : TxId) (front back : List Gathered) (w : Gathered) → IsHere (front ++ back) tx
    → IsHere (front ++ w ∷ back) tx
here_with tx [] back w here = inr here
here_with tx (f ∷ fs) back w (inl own) = inl own
here_with tx (f ∷ fs) back w (inr here) = inr (here_with tx fs back w here)

pub here_own : (tx : TxId) (front back : List Gathered) (w : Gathered) → w.tx ≡ tx → IsHere (front ++ w ∷ back) tx
here_own tx [] back w own = inl own
here_own tx (f ∷ fs) back w own = inr (here_own tx fs back w own)

here_same : (tx : TxId) (front back : List Gathered) (g w : Gathered) → w.tx ≡ g.tx → IsHere (front ++ g ∷ back) tx
    → IsHere (front ++ w ∷ back) tx
here_same tx [] back g w same (inl own) = inl (same ∙ own)
here_same tx [] back g w same (inr here) = inr here
here_same tx (f ∷ fs) back g w same (inl own) = inl own
here_same tx (f ∷ fs) back g w same (inr here) = inr (here_same tx fs back g w same here)

-- one that agrees stands among others
joined : (told : List Telling) (t : Telling) (front back : List Gathered) (w : Gathered) → w.tx ≡ t.tx
    → Each (Agrees told) front → Each (Agrees told) back → Agrees (t ∷ told) w → Distinct (front ++ back)
    → Apart w.tx (front ++ back) → IsGathered (t ∷ told) (front ++ w ∷ back)
joined told t front back w own before behind agrees distinct apart =
    let away : Apart t.tx (front ++ back) = subst (λ tx. Apart tx (front ++ back)) own apart in
    record {
      each = each_append (Agrees (t ∷ told)) front (w ∷ back)
          (all_still told t front (each_before (λ g. g.tx ≡ t.tx → ⊥) front back away) before)
          (agrees, all_still told t back (each_after (λ g. g.tx ≡ t.tx → ⊥) front back away) behind);
      distinct = distinct_with front back w distinct apart;
    }

-- what is gathered with one more record, and what was told with it
pub record AreNoted (told : List Telling) (gs : List Gathered) : Type 0 where
  pub gathered : IsGathered told gs
  pub covers : Covers gs told

module _ (told : List Telling) (tx : TxId) (key : List ℕ) (epoch : Option ℕ) (gs : List Gathered) where
  new : (now : List Gathered) → AreNoted told gs → IsNew tx key epoch gs now → AreNoted (telling tx epoch ∷ told) now
  new now had n =
      let w = told_first tx key epoch in
      let each : Each (Agrees told) (n.front ++ n.back) = subst (Each (Agrees told)) n.is had.gathered.each in
      let distinct : Distinct (n.front ++ n.back) = subst Distinct n.is had.gathered.distinct in
      let apart : Apart tx (n.front ++ n.back) = subst (Apart tx) n.is n.apart in
      let covers : Covers (n.front ++ n.back) told = subst (λ gs. Covers gs told) n.is had.covers in
      subst (AreNoted (telling tx epoch ∷ told)) (sym n.after) (record {
        gathered = joined told (telling tx epoch) n.front n.back w refl
            (each_before (Agrees told) n.front n.back each) (each_after (Agrees told) n.front n.back each)
            (agrees_first told tx epoch (untold_of tx gs told n.apart had.covers)) distinct apart;
        covers = (
          here_own tx n.front n.back w refl,
          each_map (λ t. IsHere (n.front ++ n.back) t.tx) (λ t. IsHere (n.front ++ w ∷ n.back) t.tx) told
              (λ t here. here_with t.tx n.front n.back w here) covers,
        );
      })

  more : (now : List Gathered) → AreNoted told gs → IsMore tx key epoch gs now → AreNoted (telling tx epoch ∷ told) now
  more now had m =
      let w = told_more m.own key epoch in
      let each : Each (Agrees told) (m.front ++ m.own ∷ m.back) = subst (Each (Agrees told)) m.is had.gathered.each in
      let distinct : Distinct (m.front ++ m.own ∷ m.back) = subst Distinct m.is had.gathered.distinct in
      let covers : Covers (m.front ++ m.own ∷ m.back) told = subst (λ gs. Covers gs told) m.is had.covers in
      let rest = others m.front m.back m.own distinct in
      let behind = each_after (Agrees told) m.front (m.own ∷ m.back) each in
      subst (AreNoted (telling tx epoch ∷ told)) (sym m.after) (record {
        gathered = joined told (telling tx epoch) m.front m.back w m.same
            (each_before (Agrees told) m.front (m.own ∷ m.back) each) behind.1
            (agrees_more told tx m.own.tx m.own.epoch epoch m.same behind.0) rest.distinct rest.apart;
        covers = (
          here_own tx m.front m.back w m.same,
          each_map (λ t. IsHere (m.front ++ m.own ∷ m.back) t.tx) (λ t. IsHere (m.front ++ w ∷ m.back) t.tx) told
              (λ t here. here_same t.tx m.front m.back m.own w refl here) covers,
        );
      })

  -- so it stays
  pub noted_sound : AreNoted told gs → AreNoted (telling tx epoch ∷ told) (noted gs tx key epoch)
  noted_sound had = by (noted_is gs tx key epoch)
    where
      by : IsNew tx key epoch gs (noted gs tx key epoch) ⊎ IsMore tx key epoch gs (noted gs tx key epoch)
          → AreNoted (telling tx epoch ∷ told) (noted gs tx key epoch)
      by (inl n) = new (noted gs tx key epoch) had n
      by (inr m) = more (noted gs tx key epoch) had m
