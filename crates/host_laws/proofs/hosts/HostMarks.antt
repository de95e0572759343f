-- What marks the row of a host has: nobody installs a view, and all is decided in one epoch.
use Rattle.std.proofs.Common.{◌≡◌, ℕ, true, List, [], ◌∷◌, refl, sym, ◌∙◌, subst}
use Rattle.sig_core.specs.declared.mark.Mark.{Mark}
use Rattle.sig_core.specs.declared.mark.Mark.TheVariants.{Decided}
use Rattle.sig_core.specs.declared.member.TxId.{TxId}
use Rattle.sig_core.specs.declared.signal.Body.{Body}
use Rattle.sig_core.specs.declared.signal.Signal.{Signal}
use Rattle.node_core.specs.declared.host.Host.{Host}
use Rattle.node_core.specs.Blocks.{api_of, dih_of, has_tc, lqh_of, tc_of}
use Rattle.node_core.specs.Dih.{DihState, dih_table}
use Rattle.node_core.specs.Row.{row}
use Rattle.node_core.proofs.DihForms.{dih_forms}
use Rattle.node_core.proofs.HostCases.{keeps_dih, of_effects, tc_stays}
use Rattle.host_laws.proofs.api.Marks.{api_marks}
use Rattle.host_laws.proofs.rows.Marks.{lqh_marks}
use Rattle.host_laws.proofs.hosts.PlainMarks.{ArePlain, none_plain}
use Rattle.host_laws.proofs.coordinator.Marks.{tc_marks}

-- the marks of a step in this epoch
pub data AreMarks (epoch : ℕ) (marks : List Mark) : Type 0 where
  plain : ArePlain marks → AreMarks epoch marks
  decides : (tx : TxId) → marks ≡ Decided tx epoch ∷ [] → AreMarks epoch marks

-- the host is in this epoch, if it has epochs
abbrev pub IsIn : ℕ → Host → Type 0
IsIn epoch s = has_tc s ≡ true → (dih_of s).epoch ≡ epoch

dih_marks : (s : DihState) (body : Body) → AreMarks s.epoch (dih_table s body).effects.marks
dih_marks s =
    dih_forms (λ body step. AreMarks s.epoch step.effects.marks) s (record {
      decides = λ tx ops low. decides tx refl;
      is_full = λ tx ops high. plain tt;
      ends = λ tx at there. plain tt;
      misses = λ tx none. plain tt;
      rests = λ body off. plain tt;
    })

dih_epoch : (s : DihState) (body : Body) → (dih_table s body).state.epoch ≡ s.epoch
dih_epoch s =
    dih_forms (λ body step. step.state.epoch ≡ s.epoch) s (record {
      decides = λ tx ops low. refl;
      is_full = λ tx ops high. refl;
      ends = λ tx at there. refl;
      misses = λ tx none. refl;
      rests = λ body off. refl;
    })

pub row_marks : (epoch : ℕ) (s : Host) (x : Signal) → IsIn epoch s → AreMarks epoch (row s x).effects.marks
row_marks epoch s x there =
    of_effects (λ f. AreMarks epoch f.marks) s x (plain tt) (record {
      api = λ runs at. plain (api_marks (api_of s) x.body);
      tc = λ runs at. plain (none_plain _ (tc_marks (tc_of s) x.body));
      dih = λ runs at. subst (λ k. AreMarks k (dih_table (dih_of s) x.body).effects.marks) (there runs)
          (dih_marks (dih_of s) x.body);
      rows = λ runs at. plain (lqh_marks (lqh_of s) x.body);
    })

-- the epoch stays
pub row_epoch : (epoch : ℕ) (s : Host) (x : Signal) → IsIn epoch s → IsIn epoch (row s x).state
row_epoch epoch s x there runs =
    keeps_dih (λ (d : DihState). d.epoch ≡ epoch) (λ d y is. dih_epoch d y.body ∙ is) s x
    (there (sym (tc_stays s x) ∙ runs))
