-- What a step of a host that runs rows comes to, with its marks: a view is installed, or none is; and behind that the
-- rows take the signal, and what they mark is marked; or they leave it alone, and none is marked to be applied.
use Rattle.std.proofs.Common.{◌≡◌, ◌⊎◌, ◌||◌, ◌++◌, ◌∙◌, ℕ, Bool, true, false, nat_lt, List, [], ◌∷◌, refl, sym, ap}
use Rattle.std.proofs.Common.{subst, arith, inl, inr, append_assoc}
use Rattle.std.proofs.lemmas.Bool.{ltb-false, ltb-true, true≢false}
use Rattle.std.specs.List.{list_any}
use Rattle.run_theory.specs.Lists.{Each}
use Rattle.run_theory.proofs.Pasts.{each_append}
use Rattle.std.proofs.lemmas.List.{append-nil}
use Rattle.world_views.proofs.StepWalk.{step_so}
use Rattle.node_views.proofs.HostWalk.{Saying, TakesSo}
use Rattle.node_views.specs.declared.parts.Parts.{Parts}
use Rattle.sig_core.specs.declared.outs.Outgoing.{Outgoing}
use Rattle.sig_core.specs.declared.mark.Mark.{Mark}
use Rattle.sig_core.specs.declared.mark.Mark.TheVariants.{Applied, Done, Prepared, Installed, Stopped}
use Rattle.sig_core.specs.declared.signal.Signal.{Signal}
use Rattle.sig_core.specs.declared.view.Shape.{Shape}
use Rattle.sig_core.specs.declared.view.View.{View}
use Rattle.sig_core.specs.Step.{Effects, Step}
use Rattle.node_views.specs.declared.host_body.HostBody as hosts
use Rattle.node_views.specs.declared.ldm_part.LdmPart.{LdmPart}
use Rattle.node_views.specs.declared.parts.Parts.TheVariants as part
use Rattle.node_views.specs.declared.standing.Standing.{Standing}
use Rattle.node_views.specs.Parts.{ldm_entered, ldm_row}
use Rattle.node_views.specs.Row.{entered, in_view, is_stop, killed_after, cut_marks}
use Rattle.world_core.specs.Start.{NobodyStarts, Start}
use Rattle.world_core.specs.Steps.{HostStep}
use Rattle.world_views.specs.Machine.{after, step_after, step_by}
use Rattle.view_laws.proofs.eras.Shapes.{shape_stays}
use Rattle.view_laws.specs.Runs.{view_after}
use Rattle.moment_laws.specs.Parts.{IsPassed}
use Rattle.moment_laws.specs.PartSteps.{PartEnters, installs, ldm_kind, remains}
use Rattle.moment_laws.proofs.PartSteps.{not_barred}

-- the mark says that rows prepared something, applied it, or are done with it
abbrev pub is_row_mark : Mark → Bool
is_row_mark (Prepared tx key) = true
is_row_mark (Applied tx key) = true
is_row_mark (Done tx key) = true
is_row_mark mark = false

abbrev pub AreUnapplied : List Mark → Type 0
AreUnapplied marks = Each (λ mark. is_row_mark mark ≡ false) marks

abbrev pub Entering : LdmPart → View → Signal → LdmPart → View → Type 0
Entering p view x between seen = PartEnters ldm_kind p view x between seen []

-- the host stops, and sends nothing
pub record StopsSilent (effects : Effects) : Type 0 where
  pub sends : effects.sends ≡ []
  pub stops : list_any is_stop effects.marks ≡ true

-- what a step of the host comes to: its blocks, where it stands, what it sends and marks
pub data Goes (shape : Shape) (p : LdmPart) (view : View) (x : Signal) (now : Parts) (stands : View)
    (sends : List Outgoing) (marks : List Mark) : Type 0 where
  leaves : (between : LdmPart) (seen : View) → Entering p view x between seen → now ≡ part.Ldm between
      → stands ≡ seen → sends ≡ [] → AreUnapplied marks → Goes shape p view x now stands sends marks
  takes : (between : LdmPart) (seen : View) → Entering p view x between seen
      → IsPassed shape (part.Ldm between) seen x → now ≡ part.Ldm (ldm_row between x.to.block x).state
      → stands ≡ seen
      → (sends ≡ (ldm_row between x.to.block x).effects.sends) ⊎ StopsSilent (record { sends = sends; marks = marks })
      → (front back : List Mark) → AreUnapplied front → AreUnapplied back
      → marks ≡ front ++ ((ldm_row between x.to.block x).effects.marks ++ back)
      → Goes shape p view x now stands sends marks

pub any_front : (test : Mark → Bool) (marks more : List Mark) → list_any test marks ≡ true
    → list_any test (marks ++ more) ≡ true
any_front test [] more is = absurd (true≢false (sym is))
any_front test (m ∷ marks) more is = by (test m) is (any_front test marks more)
  where
    by : (b : Bool) → (b || list_any test marks) ≡ true
        → (list_any test marks ≡ true → list_any test (marks ++ more) ≡ true)
        → (b || list_any test (marks ++ more)) ≡ true
    by true is rest = refl
    by false is rest = rest is

module _ (x : Signal) (standing : Standing) (p : LdmPart) where
  abbrev s : hosts.HostBody
  s = record { standing = standing; parts = part.Ldm p }

  abbrev Says : Saying
  Says where_it_is now sends marks = Goes standing.shape p standing.view x now where_it_is.view sends marks

  -- the host marks more that rows don't make
  more : (extra : List Mark) → AreUnapplied extra → (now : Parts) (stands : View) (sends : List Outgoing)
      (marks : List Mark) → Goes standing.shape p standing.view x now stands sends marks
      → Goes standing.shape p standing.view x now stands sends (marks ++ extra)
  more extra none now stands sends marks (leaves between seen entering parts stood quiet unmarked) =
      leaves between seen entering parts stood quiet
      (each_append (λ mark. is_row_mark mark ≡ false) marks extra unmarked none)
  more extra none now stands sends marks (takes between seen entering passed parts stood sent front back before behind
      is) =
      takes between seen entering passed parts stood (by sent) front (back ++ extra) before
      (each_append (λ mark. is_row_mark mark ≡ false) back extra behind none)
      (ap (λ all. all ++ extra) is
      ∙ (append_assoc front (row ++ back) extra ∙ ap (λ rest. front ++ rest) (append_assoc row back extra)))
    where
      row : List Mark
      row = (ldm_row between x.to.block x).effects.marks

      by : (sends ≡ (ldm_row between x.to.block x).effects.sends)
          ⊎ StopsSilent (record { sends = sends; marks = marks })
          → (sends ≡ (ldm_row between x.to.block x).effects.sends)
          ⊎ StopsSilent (record { sends = sends; marks = marks ++ extra })
      by (inl all) = inl all
      by (inr silent) = inr (record { sends = silent.sends; stops = any_front is_stop marks extra silent.stops })

  hushes : (now : Parts) (stands : View) (sends : List Outgoing) (marks : List Mark) → list_any is_stop marks ≡ true
      → Goes standing.shape p standing.view x now stands sends marks
      → Goes standing.shape p standing.view x now stands [] marks
  hushes now stands sends marks stops (leaves between seen entering parts stood quiet unmarked) =
      leaves between seen entering parts stood refl unmarked
  hushes now stands sends marks stops (takes between seen entering passed parts stood sent front back before behind is)
      =
      takes between seen entering passed parts stood (inr (record { sends = refl; stops = stops })) front back before
      behind is

  taking : (between : LdmPart) (seen : View) → Entering p standing.view x between seen
      → IsPassed standing.shape (part.Ldm between) seen x → (front : List Mark) → AreUnapplied front
      → (where_it_is : Standing) → where_it_is.view ≡ seen
      → TakesSo Says x where_it_is (part.Ldm between) [] front
  taking between seen entering passed front none where_it_is stood = record {
    row = λ unsettled.
        takes between seen entering passed refl stood (inl refl) front [] none tt
        (ap (λ row. front ++ row) (sym (append-nil (ldm_row between x.to.block x).effects.marks)));
    settles = λ view at. absurd cc;
  }

  step_goes : (h : ℕ)
      → Goes standing.shape p standing.view x (step_by h s x).state.parts (step_by h s x).state.standing.view
      (step_by h s x).effects.sends (step_by h s x).effects.marks
  unfolding entered
  step_goes h =
      step_so Says x h s (record {
        own = record {
          counts = λ where_it_is parts sends marks left so. so;
          cuts = λ where_it_is parts sends marks first.
              more (cut_marks first) (refl, (refl, (refl, tt))) parts where_it_is.view sends marks;
          stops = λ where_it_is parts sends marks cause.
              more (Stopped cause ∷ []) (refl, tt) parts where_it_is.view sends marks;
          hushes = λ where_it_is parts sends marks stops. hushes parts where_it_is.view sends marks stops;
        };
        stays = leaves p standing.view (remains refl refl refl) refl refl refl tt;
        goes = λ sound old barred left.
            taking p standing.view (remains refl refl refl)
            (record {
              sound = sound;
              low = ltb-false standing.view.number x.view.number old;
              fresh = not_barred s x barred;
            })
            [] tt (killed_after standing left) refl;
        enters = λ sound newer among left.
            leaves (ldm_entered p x.view).state x.view (above newer) refl refl refl (refl, tt);
        behind = λ sound newer among barred left.
            taking (ldm_entered p x.view).state x.view (above newer)
            (record { sound = sound; low = omega arith; fresh = not_barred (entered s x.view).state x barred })
            (Installed x.view ∷ []) (refl, tt) (in_view (killed_after standing left) x.view) refl;
      })
    where
      above : nat_lt standing.view.number x.view.number ≡ true
          → Entering p standing.view x (ldm_entered p x.view).state x.view
      above newer = installs (ltb-true standing.view.number x.view.number newer) refl refl refl

-- so it is along a log
module _ (start : Start) (nobody : NobodyStarts start) (h : ℕ) (log : List HostStep) (e : HostStep) (p : LdmPart)
    (runs : (after start h log).parts ≡ part.Ldm p)
  where
    pub ldm_goes : Goes start.shape p (view_after start h log) e.step.taken (step_after start h log e).state.parts
        (step_after start h log e).state.standing.view (step_after start h log e).effects.sends
        (step_after start h log e).effects.marks
    ldm_goes =
        let standing = (after start h log).standing in
        subst (λ shape. GoesBy shape p standing.view e.step.taken (step_after start h log e))
        (shape_stays start nobody h log)
        (subst
        (λ parts. GoesBy standing.shape p standing.view e.step.taken
        (step_by h (record { standing = standing; parts = parts }) e.step.taken))
        (sym runs) (step_goes e.step.taken standing p h))
      where
        GoesBy : Shape → LdmPart → View → Signal → Step hosts.HostBody → Type 0
        GoesBy shape p view x step =
            Goes shape p view x step.state.parts step.state.standing.view step.effects.sends step.effects.marks
