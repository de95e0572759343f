use Rattle.view_laws.proofs.fences.Answers.{confirmations_are_few}
use Rattle.view_laws.proofs.fences.WhatLinksOwe.{confirmed_fenced}
use Rattle.view_laws.proofs.fences.Links.{requests_are_high}
use Rattle.view_laws.proofs.fences.AlwaysThere.{fences_are_there}
use Rattle.view_laws.proofs.fences.EachViewFenced.{each_view_by}
use Rattle.view_laws.proofs.fence_laws.each_view_is_fenced.Goals as goal

pub returns : goal.returns
returns c = each_view_by (confirmed_fenced confirmations_are_few requests_are_high fences_are_there)
