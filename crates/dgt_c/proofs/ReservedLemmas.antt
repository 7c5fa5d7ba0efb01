-- The reserved members of reports are 0.
use Rattle.{std.{proofs.Common.{◌≡◌, ℕ, List, Option, rules}, specs.Prelude.{replicate}}, dgt_decode.specs.Grammar.{Event}}
use Rattle.dgt_c.specs.{Once.{CommandsReserveZeros, ReportsReserveZeros, ViewsReserveZeros}, Reported.{reported_at}, declared.header.DgtEvent.{DgtEvent}}

place_zeros : (place : ℕ) (event : Option Event)
    → (reported_at place event).reserved ≡ replicate 29 0
place_zeros place event = search rules

abbrev reserved : DgtEvent → List ℕ
reserved e = e.reserved

pub reports_reserve_zeros : ReportsReserveZeros
reports_reserve_zeros = search (rules, place_zeros)

pub views_reserve_zeros : ViewsReserveZeros
views_reserve_zeros code body = search rules

pub commands_reserve_zeros : CommandsReserveZeros
commands_reserve_zeros event reported p = search rules
