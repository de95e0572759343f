-- A view, in words.
use Rattle.std.specs.Prelude.{ℕ, List, [], ◌∷◌, ◌++◌, codes}
use Rattle.std.specs.Fmt.{decimal}
use Rattle.sig_core.specs.declared.member.Member.{Member}
use Rattle.sig_core.specs.declared.view.View.{View}

-- the nodes of members that stand behind others, each behind a comma
abbrev pub further_nodes : List Member → List ℕ
further_nodes [] = []
further_nodes (member ∷ members) = codes "," ++ decimal member.node ++ further_nodes members

-- the nodes of members, joined by commas; a dash for none
abbrev pub joined_nodes : List Member → List ℕ
joined_nodes [] = codes "-"
joined_nodes (member ∷ members) = decimal member.node ++ further_nodes members

-- the words of a view
abbrev pub view_words : View → List ℕ
view_words view =
    codes "view " ++ decimal view.number ++ codes " full " ++ joined_nodes view.full
    ++ codes " starting " ++ joined_nodes view.starting
