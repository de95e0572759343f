-- The blocks of a host keep to their words, and so does the host.
use Rattle.std.proofs.Common.{◌≡◌, ◌||◌, ◌∙◌, Bool, true, refl, subst, sym}
use Rattle.std.proofs.lemmas.Bool.{or_left, or_right}
use Rattle.sig_core.specs.declared.mark.Mark.{Mark}
use Rattle.sig_core.specs.declared.place.BlockId.{BlockId}
use Rattle.sig_core.specs.declared.place.BlockId.TheVariants as block
use Rattle.sig_core.specs.declared.signal.Body.{Body}
use Rattle.sig_core.specs.declared.signal.Signal.{Signal}
use Rattle.sig_core.specs.declared.view.View.{View}
use Rattle.sig_core.specs.Step.{Step}
use Rattle.step_forms.specs.Does.{IsAmong, IsWord, Speaks}
use Rattle.step_forms.proofs.DoesLemmas.{does_map}
use Rattle.api_views.specs.Client.{client_row}
use Rattle.api_views.proofs.Walk.{client_words}
use Rattle.api_views.specs.Words.{is_client_mark, is_client_word}
use Rattle.arbiter_block.specs.Arbiter.{arbiter_row}
use Rattle.arbiter_block.proofs.Walk.{arbiter_words}
use Rattle.arbiter_block.specs.Words.{is_arbiter_mark, is_arbiter_word}
use Rattle.dih_node.specs.Dih.{dih_row}
use Rattle.dih_node.specs.Orders as dih
use Rattle.dih_node.proofs.Walk.{dih_words}
use Rattle.dih_node.specs.Words.{is_dih_mark, is_dih_word}
use Rattle.gcp_master.specs.Master.{master_row}
use Rattle.gcp_master.proofs.Walk.{master_words}
use Rattle.gcp_master.specs.Words.{is_master_mark, is_master_word}
use Rattle.lqh_saver.proofs.Walk.{rows_words}
use Rattle.lqh_saver.specs.Words.{is_saver_word}
use Rattle.lqh_views.specs.Replica.{replica_row}
use Rattle.qmgr_block.specs.Qmgr.{qmgr_installed, qmgr_row}
use Rattle.qmgr_block.proofs.Walk.{qmgr_words}
use Rattle.qmgr_block.specs.Words.{is_qmgr_mark, is_qmgr_word}
use Rattle.takeover_block.specs.Takeover.{takeover_row}
use Rattle.takeover_block.proofs.Walk.{takeover_words}
use Rattle.takeover_block.specs.Words.{is_takeover_mark, is_takeover_word}
use Rattle.tc_views.specs.Coordinator.{coordinator_row}
use Rattle.tc_views.specs.Views as coordinator
use Rattle.tc_views.proofs.Walk.{coordinator_words}
use Rattle.tc_views.specs.Words.{is_coordinator_mark, is_coordinator_word}
use Rattle.node_views.specs.Blocks.{parts_entered, parts_row}
use Rattle.node_views.specs.declared.host_body.HostBody as hosts
use Rattle.node_views.specs.declared.ldm_part.LdmPart.{LdmPart}
use Rattle.node_views.specs.declared.parts.Parts.{Parts}
use Rattle.node_views.specs.declared.parts.Parts.TheVariants.{Shell, Main, Tc, Ldm}
use Rattle.node_views.specs.Row.{host_row}
use Rattle.node_views.specs.Words.{HostsKeepToTheirWords, block_marks, block_words, host_marks, is_host_mark}
use Rattle.node_views.specs.Words.{parts_marks, parts_words}
use Rattle.node_views.proofs.HostEach.{each_kept, row_each}
use Rattle.node_views.proofs.Walk.{parts_each, parts_installed_each}

-- of two vocabularies, one block says the words of the first, and one those of the second
module _ {S : Type 0} (words more : Body → Bool) (marks others : Mark → Bool) (step : Step S) where
  abbrev Either : Type 0
  Either = Speaks (λ body. words body || more body) (λ mark. marks mark || others mark) step

  first : Speaks words marks step → Either
  first =
      does_map (IsWord words) (IsWord (λ body. words body || more body)) (IsAmong marks)
      (IsAmong (λ mark. marks mark || others mark)) step (λ sent is. or_left (words sent.body) (more sent.body) is)
      (λ mark is. or_left (marks mark) (others mark) is)

  second : Speaks more others step → Either
  second =
      does_map (IsWord more) (IsWord (λ body. words body || more body)) (IsAmong others)
      (IsAmong (λ mark. marks mark || others mark)) step (λ sent is. or_right (words sent.body) (more sent.body) is)
      (λ mark is. or_right (marks mark) (others mark) is)

-- where a coordinating part takes a signal or installs a view, one of its three blocks speaks
module _ {S : Type 0} (step : Step S) where
  abbrev OfTc : Type 0
  OfTc =
      Speaks (λ body. is_coordinator_word body || (is_takeover_word body || is_dih_word body))
      (λ mark. is_coordinator_mark mark || (is_takeover_mark mark || is_dih_mark mark)) step

  of_coordinator : Speaks is_coordinator_word is_coordinator_mark step → OfTc
  of_coordinator =
      first is_coordinator_word (λ body. is_takeover_word body || is_dih_word body) is_coordinator_mark
      (λ mark. is_takeover_mark mark || is_dih_mark mark) step

  behind_coordinator : Speaks (λ body. is_takeover_word body || is_dih_word body)
      (λ mark. is_takeover_mark mark || is_dih_mark mark) step → OfTc
  behind_coordinator =
      second is_coordinator_word (λ body. is_takeover_word body || is_dih_word body) is_coordinator_mark
      (λ mark. is_takeover_mark mark || is_dih_mark mark) step

  of_takeover : Speaks is_takeover_word is_takeover_mark step → OfTc
  of_takeover speaks =
      behind_coordinator (first is_takeover_word is_dih_word is_takeover_mark is_dih_mark step speaks)

  of_dih : Speaks is_dih_word is_dih_mark step → OfTc
  of_dih speaks = behind_coordinator (second is_takeover_word is_dih_word is_takeover_mark is_dih_mark step speaks)

module _ (parts : Parts) where
  -- what the part may say that these blocks are
  of_parts : {S : Type 0} (q : Parts) → parts ≡ q → (step : Step S) → Speaks (parts_words q) (parts_marks q) step
      → Speaks (parts_words parts) (parts_marks parts) step
  of_parts q is step = subst (λ q. Speaks (parts_words q) (parts_marks q) step) (sym is)

  pub parts_speak : (x : Signal) → Speaks (parts_words parts) (parts_marks parts) (parts_row parts x)
  parts_speak x =
      parts_each (IsWord (parts_words parts)) (IsAmong (parts_marks parts)) parts x (record {
        client = λ p is to.
            of_parts (Shell p) is (client_row p.client x)
            (first is_client_word is_arbiter_word is_client_mark is_arbiter_mark (client_row p.client x)
            (client_words p.client x));
        arbiter = λ p is to.
            of_parts (Shell p) is (arbiter_row p.arbiter x)
            (second is_client_word is_arbiter_word is_client_mark is_arbiter_mark (arbiter_row p.arbiter x)
            (arbiter_words p.arbiter x));
        qmgr = λ p is to.
            of_parts (Main p) is (qmgr_row p.qmgr x)
            (first is_qmgr_word is_master_word is_qmgr_mark is_master_mark (qmgr_row p.qmgr x)
            (qmgr_words.at_signals p.qmgr x));
        master = λ p is to.
            of_parts (Main p) is (master_row p.master x)
            (second is_qmgr_word is_master_word is_qmgr_mark is_master_mark (master_row p.master x)
            (master_words p.master x));
        coordinator = λ p is to.
            of_parts (Tc p) is (coordinator_row p.coordinator x)
            (of_coordinator (coordinator_row p.coordinator x) (coordinator_words.takes p.coordinator x));
        takeover = λ p is to.
            of_parts (Tc p) is (takeover_row p.takeover x)
            (of_takeover (takeover_row p.takeover x) (takeover_words.takes p.takeover x));
        dih = λ p is to.
            of_parts (Tc p) is (dih_row p.dih x) (of_dih (dih_row p.dih x) (dih_words.0 p.dih x));
        replica = λ p is to. of_parts (Ldm p) is (replica_row p.replica x) (rows_words p.replica x);
        saver = λ p is to.
            record {
              goes_on = λ own. of_saver p is _ refl;
              reports = λ walk to own walking. of_saver p is _ refl;
              confirms = λ finished end ordered walked usable. of_saver p is _ refl;
            };
      })
    where
      of_saver : (p : LdmPart) → parts ≡ Ldm p → (body : Body) → is_saver_word body ≡ true
          → parts_words parts body ≡ true
      of_saver p is body = subst (λ q. parts_words q body ≡ true) (sym is)

  pub parts_speak_installed : (view : View) → Speaks (parts_words parts) (parts_marks parts) (parts_entered parts view)
  parts_speak_installed view =
      parts_installed_each (IsWord (parts_words parts)) (IsAmong (parts_marks parts)) parts view (record {
        qmgr = λ p is.
            of_parts (Main p) is (qmgr_installed p.qmgr view)
            (first is_qmgr_word is_master_word is_qmgr_mark is_master_mark (qmgr_installed p.qmgr view)
            (qmgr_words.at_installations p.qmgr view));
        coordinator = λ p is.
            of_parts (Tc p) is (coordinator.install_row p.coordinator view)
            (of_coordinator (coordinator.install_row p.coordinator view)
            (coordinator_words.installs p.coordinator view));
        dih = λ p is.
            of_parts (Tc p) is (dih.install_row p.dih view.number)
            (of_dih (dih.install_row p.dih view.number) (dih_words.1 p.dih view.number));
      })

  -- what is sent at a signal the block may say that it is for
  pub block_speaks : (x : Signal) → Speaks (block_words x.to.block) (block_marks x.to.block) (parts_row parts x)
  block_speaks x =
      parts_each (IsWord (block_words x.to.block)) (IsAmong (block_marks x.to.block)) parts x (record {
        client = λ p is to. of_block block.Api to (client_row p.client x) (client_words p.client x);
        arbiter = λ p is to. of_block block.Arbiter to (arbiter_row p.arbiter x) (arbiter_words p.arbiter x);
        qmgr = λ p is to. of_block block.Qmgr to (qmgr_row p.qmgr x) (qmgr_words.at_signals p.qmgr x);
        master = λ p is to. of_block block.GcpMaster to (master_row p.master x) (master_words p.master x);
        coordinator = λ p is to.
            of_block block.Tc to (coordinator_row p.coordinator x) (coordinator_words.takes p.coordinator x);
        takeover = λ p is to.
            of_block block.Takeover to (takeover_row p.takeover x) (takeover_words.takes p.takeover x);
        dih = λ p is to. of_block block.Dih to (dih_row p.dih x) (dih_words.0 p.dih x);
        replica = λ p is to. of_block block.Lqh to (replica_row p.replica x) (rows_words p.replica x);
        saver = λ p is to.
            record {
              goes_on = λ own. of_saver to _ refl;
              reports = λ walk node own walking. of_saver to _ refl;
              confirms = λ finished end ordered walked usable. of_saver to _ refl;
            };
      })
    where
      of_saver : x.to.block ≡ block.Lqh → (body : Body) → is_saver_word body ≡ true
          → block_words x.to.block body ≡ true
      of_saver to body = subst (λ at. block_words at body ≡ true) (sym to)

      of_block : {S : Type 0} (at : BlockId) → x.to.block ≡ at → (step : Step S)
          → Speaks (block_words at) (block_marks at) step
          → Speaks (block_words x.to.block) (block_marks x.to.block) step
      of_block at to step = subst (λ at. Speaks (block_words at) (block_marks at) step) (sym to)

-- the part that a host runs is the same behind a step and an installation, and so are its words
module _ (parts : Parts) where
  abbrev pub HasWordsOf : Parts → Type 0
  HasWordsOf now =
      ((body : Body) → parts_words now body ≡ parts_words parts body)
      × ((mark : Mark) → parts_marks now mark ≡ parts_marks parts mark)

  pub words_stay : (x : Signal) → HasWordsOf (parts_row parts x).state
  words_stay x = by parts
    where
      by : (q : Parts) → ((body : Body) → parts_words (parts_row q x).state body ≡ parts_words q body)
          × ((mark : Mark) → parts_marks (parts_row q x).state mark ≡ parts_marks q mark)
      by (Shell p) = (λ body. refl, λ mark. refl)
      by (Main p) = (λ body. refl, λ mark. refl)
      by (Tc p) = (λ body. refl, λ mark. refl)
      by (Ldm p) = (λ body. refl, λ mark. refl)

  pub words_stay_installed : (view : View) → HasWordsOf (parts_entered parts view).state
  words_stay_installed view = by parts
    where
      by : (q : Parts) → ((body : Body) → parts_words (parts_entered q view).state body ≡ parts_words q body)
          × ((mark : Mark) → parts_marks (parts_entered q view).state mark ≡ parts_marks q mark)
      by (Shell p) = (λ body. refl, λ mark. refl)
      by (Main p) = (λ body. refl, λ mark. refl)
      by (Tc p) = (λ body. refl, λ mark. refl)
      by (Ldm p) = (λ body. refl, λ mark. refl)

-- a host keeps to the words of its part, beside the marks that it makes itself
module _ (s : hosts.HostBody) (x : Signal) where
  abbrev Hosts : {S : Type 0} → Step S → Type 0
  Hosts step = Speaks (parts_words s.parts) (host_marks s.parts) step

  of_host : {S : Type 0} (now : Parts) → HasWordsOf s.parts now → (step : Step S)
      → Speaks (parts_words now) (parts_marks now) step → Hosts step
  of_host now same step =
      does_map (IsWord (parts_words now)) (IsWord (parts_words s.parts)) (IsAmong (parts_marks now))
      (IsAmong (host_marks s.parts)) step (λ sent is. sym (same.0 sent.body) ∙ is)
      (λ mark is. or_right (is_host_mark mark) (parts_marks s.parts mark) (sym (same.1 mark) ∙ is))

  pub host_speaks : Speaks (parts_words s.parts) (host_marks s.parts) (host_row s x)
  host_speaks =
      row_each (IsWord (parts_words s.parts)) (IsAmong (host_marks s.parts))
      (record { stops = λ cause. refl; installs = λ view. refl; cuts = λ host. refl }) x s
      (each_kept (IsWord (parts_words s.parts)) (IsAmong (host_marks s.parts)) (HasWordsOf s.parts) x
      (record {
        row = λ parts same. of_host parts same (parts_row parts x) (parts_speak parts x);
        enters = λ parts view same. of_host parts same (parts_entered parts view) (parts_speak_installed parts view);
        stays = λ parts same.
            (λ body. (words_stay parts x).0 body ∙ same.0 body, λ mark. (words_stay parts x).1 mark ∙ same.1 mark);
        stays_entered = λ parts view same. (
          λ body. (words_stay_installed parts view).0 body ∙ same.0 body,
          λ mark. (words_stay_installed parts view).1 mark ∙ same.1 mark,
        );
      })
      s (λ body. refl, λ mark. refl))

pub hosts_law : HostsKeepToTheirWords
hosts_law = record {
  at_blocks = block_speaks;
  at_signals = parts_speak;
  at_installations = parts_speak_installed;
  of_hosts = host_speaks;
}
