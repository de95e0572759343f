-- What a change of one link, the sends of a step, a loss and a closing do to each link.
use Rattle.std.proofs.Common.{◌≡◌, ◌≢◌, ◌⊎◌, inl, inr, ℕ, zero, suc, ◌<◌, ◌≤◌, List, [], ◌∷◌, length, Bool, true, false}
use Rattle.std.proofs.Common.{refl, ap, sym, ◌∙◌, subst, arith}
use Rattle.std.proofs.lemmas.Bool.Decides.{nat_tests}
use Rattle.std.proofs.lemmas.Bool.{cases_eq, cases_lt}
use Rattle.std.proofs.lemmas.List.{get_or-map, get_or-set_other, get_or-set_same, get_or_past, length-map, length-set}
use Rattle.std.specs.Prelude.{if◌then◌else◌, nat_lt, slice_set}
use Rattle.sig_core.specs.declared.signal.Signal.{Signal}
use Rattle.world_views.specs.declared.sender.Sender.{Sender}
use Rattle.world_views.specs.Links.{AreLinks, Inbox, LinkState, Links, behind, changed, close_below, close_one}
use Rattle.world_views.specs.Links.{closed_by, inbox_of, link, link_from, lose, new_link, put, put_all, with_inbox}
use Rattle.world_views.specs.Links.{with_link, without}
use Rattle.world_views.specs.Sending.{Routed}

-- an inbox keeps its length
with_link_length : (inbox : Inbox) (from : ℕ) (l : LinkState) → length (with_link inbox from l) ≡ length inbox
with_link_length inbox from l = go (nat_lt from (length inbox))
  where
    go : (b : Bool) → length (if b then slice_set inbox from l else inbox) ≡ length inbox
    go true = length-set inbox from l
    go false = refl

-- and of its links the one that is put there changes
with_link_own : (inbox : Inbox) (from : ℕ) (l : LinkState) → from < length inbox
    → link_from (with_link inbox from l) from ≡ l
with_link_own inbox from l there = go (nat_lt from (length inbox)) refl
  where
    go : (b : Bool) → nat_lt from (length inbox) ≡ b
        → link_from (if b then slice_set inbox from l else inbox) from ≡ l
    go true e = get_or-set_same inbox from l new_link there
    go false e = absurd (grind (arith, nat_tests, e, there))

with_link_other : (inbox : Inbox) (from : ℕ) (l : LinkState) (i : ℕ) → i ≢ from
    → link_from (with_link inbox from l) i ≡ link_from inbox i
with_link_other inbox from l i apart = go (nat_lt from (length inbox))
  where
    go : (b : Bool) → link_from (if b then slice_set inbox from l else inbox) i ≡ link_from inbox i
    go true = get_or-set_other inbox from i l new_link apart
    go false = refl

-- an inbox, put in the place of one
with_inbox_length : (links : Links) (to : ℕ) (inbox : Inbox) → length (with_inbox links to inbox) ≡ length links
with_inbox_length links to inbox = go (nat_lt to (length links))
  where
    go : (b : Bool) → length (if b then slice_set links to inbox else links) ≡ length links
    go true = length-set links to inbox
    go false = refl

with_inbox_own : (links : Links) (to : ℕ) (inbox : Inbox) → to < length links
    → inbox_of (with_inbox links to inbox) to ≡ inbox
with_inbox_own links to inbox there = go (nat_lt to (length links)) refl
  where
    go : (b : Bool) → nat_lt to (length links) ≡ b → inbox_of (if b then slice_set links to inbox else links) to ≡ inbox
    go true e = get_or-set_same links to inbox [] there
    go false e = absurd (grind (arith, nat_tests, e, there))

with_inbox_other : (links : Links) (to : ℕ) (inbox : Inbox) (j : ℕ) → j ≢ to
    → inbox_of (with_inbox links to inbox) j ≡ inbox_of links j
with_inbox_other links to inbox j apart = go (nat_lt to (length links))
  where
    go : (b : Bool) → inbox_of (if b then slice_set links to inbox else links) j ≡ inbox_of links j
    go true = get_or-set_other links to j inbox [] apart
    go false = refl

-- a link that the new inbox has as the old one had it
with_inbox_at : (links : Links) (to : ℕ) (inbox : Inbox) (i : ℕ) → link_from inbox i ≡ link links i to
    → link (with_inbox links to inbox) i to ≡ link links i to
with_inbox_at links to inbox i same = go (nat_lt to (length links)) refl
  where
    go : (b : Bool) → nat_lt to (length links) ≡ b
        → link (if b then slice_set links to inbox else links) i to ≡ link links i to
    go true e = ap (λ b. link_from b i) (get_or-set_same links to inbox [] (grind (arith, nat_tests, e))) ∙ same
    go false e = refl

-- One link is changed: there are as many as before, ..
pub changed_links : (n : ℕ) (links : Links) (from to : ℕ) (change : LinkState → LinkState) → AreLinks n links
    → AreLinks n (changed links from to change)
changed_links n links from to change are =
    record {
      inboxes = with_inbox_length links to inbox ∙ are.inboxes;
      each = λ j low. go j low (cases_eq j to);
    }
  where
    inbox : Inbox
    inbox = with_link (inbox_of links to) from (change (link links from to))

    go : (j : ℕ) → j < n → (j ≡ to) ⊎ (j ≢ to) → length (inbox_of (with_inbox links to inbox) j) ≡ n
    go j low (inl at) =
        subst (λ k. length (inbox_of (with_inbox links to inbox) k) ≡ n) (sym at)
        (ap length (with_inbox_own links to inbox (omega (arith, at, low, are.inboxes)))
        ∙ with_link_length (inbox_of links to) from (change (link links from to))
        ∙ are.each to (omega (arith, at, low)))
    go j low (inr apart) = ap length (with_inbox_other links to inbox j apart) ∙ are.each j low

-- .. it is what the change makes of it, ..
pub changed_own : (n : ℕ) (links : Links) (from to : ℕ) (change : LinkState → LinkState) → AreLinks n links
    → from < n → to < n → link (changed links from to change) from to ≡ change (link links from to)
changed_own n links from to change are from_low to_low =
    ap (λ b. link_from b from)
    (with_inbox_own links to (with_link (inbox_of links to) from (change (link links from to)))
    (omega (arith, to_low, are.inboxes)))
    ∙ with_link_own (inbox_of links to) from (change (link links from to)) (omega (arith, from_low, are.each to to_low))

-- .. and no other one changes.
pub changed_from : (links : Links) (from to : ℕ) (change : LinkState → LinkState) (i j : ℕ) → i ≢ from
    → link (changed links from to change) i j ≡ link links i j
changed_from links from to change i j apart = go (cases_eq j to)
  where
    inbox : Inbox
    inbox = with_link (inbox_of links to) from (change (link links from to))

    go : (j ≡ to) ⊎ (j ≢ to) → link (with_inbox links to inbox) i j ≡ link links i j
    go (inl at) =
        subst (λ k. link (with_inbox links to inbox) i k ≡ link links i k) (sym at)
        (with_inbox_at links to inbox i
        (with_link_other (inbox_of links to) from (change (link links from to)) i apart))
    go (inr away) = ap (λ b. link_from b i) (with_inbox_other links to inbox j away)

pub changed_to : (links : Links) (from to : ℕ) (change : LinkState → LinkState) (i j : ℕ) → j ≢ to
    → link (changed links from to change) i j ≡ link links i j
changed_to links from to change i j apart =
    ap (λ b. link_from b i)
    (with_inbox_other links to (with_link (inbox_of links to) from (change (link links from to))) j apart)

-- all that a step sends: there are as many links as before, and those from other hosts stay as they are
pub put_all_links : (n : ℕ) (links : Links) (by : Sender) (rs : List Routed) → AreLinks n links
    → AreLinks n (put_all links by rs)
put_all_links n links by [] are = are
put_all_links n links by (r ∷ rs) are =
    put_all_links n (put links by r) by rs (changed_links n links by.host r.to (behind by r) are)

pub put_all_other : (links : Links) (by : Sender) (rs : List Routed) (i j : ℕ) → i ≢ by.host
    → link (put_all links by rs) i j ≡ link links i j
put_all_other links by [] i j apart = refl
put_all_other links by (r ∷ rs) i j apart =
    put_all_other (put links by r) by rs i j apart ∙ changed_from links by.host r.to (behind by r) i j apart

-- an inbox that has lost the youngest signals of a host
abbrev lost_in : ℕ → ℕ → Inbox → Inbox
lost_in from lost inbox = with_link inbox from (without lost (link_from inbox from))

-- each inbox loses what the host had sent it last
lost_inbox : (links : Links) (from lost j : ℕ)
    → inbox_of (lose links from lost) j ≡ lost_in from lost (inbox_of links j)
lost_inbox links from lost j = go (cases_lt j (length links))
  where
    none : (b : Bool) → nat_lt from 0 ≡ b → [] ≡ (if b then slice_set [] from (without lost new_link) else [])
    none true e = absurd (grind (arith, nat_tests, e))
    none false e = refl

    go : (j < length links) ⊎ (length links ≤ j)
        → inbox_of (lose links from lost) j ≡ lost_in from lost (inbox_of links j)
    go (inl low) = get_or-map (lost_in from lost) links j [] [] low
    go (inr past) =
        get_or_past (lose links from lost) j [] (omega (arith, past, length-map links (lost_in from lost)))
        ∙ none (nat_lt from 0) refl ∙ sym (ap (lost_in from lost) (get_or_past links j [] past))

-- a host loses the youngest signals on each link from it
pub lose_links : (n : ℕ) (links : Links) (from lost : ℕ) → AreLinks n links → AreLinks n (lose links from lost)
lose_links n links from lost are =
    record {
      inboxes = length-map links (lost_in from lost) ∙ are.inboxes;
      each = λ j low.
          ap length (lost_inbox links from lost j)
          ∙ with_link_length (inbox_of links j) from (without lost (link links from j)) ∙ are.each j low;
    }

pub lose_own : (n : ℕ) (links : Links) (from lost j : ℕ) → AreLinks n links → from < n → j < n
    → link (lose links from lost) from j ≡ without lost (link links from j)
lose_own n links from lost j are from_low low =
    ap (λ b. link_from b from) (lost_inbox links from lost j)
    ∙ with_link_own (inbox_of links j) from (without lost (link links from j)) (omega (arith, from_low, are.each j low))

pub lose_other : (links : Links) (from lost i j : ℕ) → i ≢ from
    → link (lose links from lost) i j ≡ link links i j
lose_other links from lost i j apart =
    ap (λ b. link_from b i) (lost_inbox links from lost j)
    ∙ with_link_other (inbox_of links j) from (without lost (link links from j)) i apart

-- a host closes its links: there are as many as before, ..
close_one_links : (n : ℕ) (b : Bool) (links : Links) (from to : ℕ) (signal : Signal) → AreLinks n links
    → AreLinks n (close_one b links from to signal)
close_one_links n true links from to signal are = are
close_one_links n false links from to signal are = changed_links n links from to (closed_by signal) are

pub close_links : (n m : ℕ) (links : Links) (from : ℕ) (stays : ℕ → Bool) (closing : ℕ → Signal) → AreLinks n links
    → AreLinks n (close_below m links from stays closing)
close_links n zero links from stays closing are = are
close_links n (suc m) links from stays closing are =
    close_one_links n (stays m) (close_below m links from stays closing) from m (closing m)
    (close_links n m links from stays closing are)

-- .. those to hosts past the last that it closes stay as they are, ..
close_one_to : (b : Bool) (links : Links) (from to : ℕ) (signal : Signal) (i j : ℕ) → j ≢ to
    → link (close_one b links from to signal) i j ≡ link links i j
close_one_to true links from to signal i j apart = refl
close_one_to false links from to signal i j apart = changed_to links from to (closed_by signal) i j apart

close_past : (m : ℕ) (links : Links) (from : ℕ) (stays : ℕ → Bool) (closing : ℕ → Signal) (i j : ℕ) → m ≤ j
    → link (close_below m links from stays closing) i j ≡ link links i j
close_past zero links from stays closing i j past = refl
close_past (suc m) links from stays closing i j past =
    close_one_to (stays m) (close_below m links from stays closing) from m (closing m) i j
    (λ same. absurd (omega (arith, same, past)))
    ∙ close_past m links from stays closing i j (omega (arith, past))

-- .. each of the others from it is closed, unless it is to stay, ..
close_one_own : (n : ℕ) (b : Bool) (links : Links) (from to : ℕ) (signal : Signal) → AreLinks n links
    → from < n → to < n
    → link (close_one b links from to signal) from to
    ≡ (if b then link links from to else closed_by signal (link links from to))
close_one_own n true links from to signal are from_low to_low = refl
close_one_own n false links from to signal are from_low to_low =
    changed_own n links from to (closed_by signal) are from_low to_low

pub close_own : (n m : ℕ) (links : Links) (from : ℕ) (stays : ℕ → Bool) (closing : ℕ → Signal) (j : ℕ)
    → AreLinks n links → from < n → j < n → j < m
    → link (close_below m links from stays closing) from j
    ≡ (if stays j then link links from j else closed_by (closing j) (link links from j))
close_own n zero links from stays closing j are from_low low under = absurd (omega (arith, under))
close_own n (suc m) links from stays closing j are from_low low under =
    go (cases_eq j m) (λ below. close_own n m links from stays closing j are from_low low below)
  where
    before : Links
    before = close_below m links from stays closing

    go : (j ≡ m) ⊎ (j ≢ m)
        → (j < m → link before from j
        ≡ (if stays j then link links from j else closed_by (closing j) (link links from j)))
        → link (close_one (stays m) before from m (closing m)) from j
        ≡ (if stays j then link links from j else closed_by (closing j) (link links from j))
    go (inl at) was =
        subst (λ k. link (close_one (stays m) before from m (closing m)) from k
        ≡ (if stays k then link links from k else closed_by (closing k) (link links from k))) (sym at)
        (close_one_own n (stays m) before from m (closing m) (close_links n m links from stays closing are)
        from_low (omega (arith, at, low))
        ∙ ap (λ (l : LinkState). if stays m then l else closed_by (closing m) l)
        (close_past m links from stays closing from m (omega arith)))
    go (inr apart) was =
        close_one_to (stays m) before from m (closing m) from j apart ∙ was (omega (arith, under, apart))

-- .. and those from other hosts stay as they are.
close_one_from : (b : Bool) (links : Links) (from to : ℕ) (signal : Signal) (i j : ℕ) → i ≢ from
    → link (close_one b links from to signal) i j ≡ link links i j
close_one_from true links from to signal i j apart = refl
close_one_from false links from to signal i j apart = changed_from links from to (closed_by signal) i j apart

pub close_other : (m : ℕ) (links : Links) (from : ℕ) (stays : ℕ → Bool) (closing : ℕ → Signal) (i j : ℕ) → i ≢ from
    → link (close_below m links from stays closing) i j ≡ link links i j
close_other zero links from stays closing i j apart = refl
close_other (suc m) links from stays closing i j apart =
    close_one_from (stays m) (close_below m links from stays closing) from m (closing m) i j apart
    ∙ close_other m links from stays closing i j apart
