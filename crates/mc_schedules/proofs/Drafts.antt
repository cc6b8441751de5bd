-- What one more line adds to what the lines so far say.
use Rattle.std.proofs.Common.{◌≡◌, ℕ, true, not, List, [], ◌∷◌, ◌++◌, length, Option, Some, None, refl, sym, ◌∙◌, ap, append-nil, true≢false, arith}
use Rattle.std.proofs.lemmas.Bool.{lt-ltb}
use Rattle.std.proofs.lemmas.List.Elements.{filter_map-append}
use Rattle.std.specs.List.{cons_option, filter_map}
use Rattle.mc_model.specs.declared.settings.Limits.{Limits}
use Rattle.mc_schedules.specs.declared.draft.Draft.{Draft}
use Rattle.mc_schedules.specs.declared.line.Said.TheVariants.{Core, Nothing, Tenant, ToDo}
use Rattle.mc_schedules.specs.declared.schedule.Action.{Action}
use Rattle.mc_schedules.specs.declared.schedule.Item.{Item}
use Rattle.mc_schedules.specs.Draft.{IsDraftOf, option_list}
use Rattle.mc_schedules.specs.Place.{Statement, cores, is_in_place, is_there}

-- an element that gives nothing adds nothing
passed : {X : Type 0} (h : Statement → Option X) (before : List Statement) (one : Statement) → h one ≡ None
    → filter_map h (before ++ one ∷ []) ≡ filter_map h before
passed h before one none =
    filter_map-append h before (one ∷ []) ∙ (ap (λ given. filter_map h before ++ cons_option given []) none ∙ append-nil (filter_map h before))

-- one that gives a value adds this at the end
joined : {X : Type 0} (h : Statement → Option X) (before : List Statement) (one : Statement) (value : X) → h one ≡ Some value
    → filter_map h (before ++ one ∷ []) ≡ filter_map h before ++ value ∷ []
joined h before one value some = filter_map-append h before (one ∷ []) ∙ ap (λ given. filter_map h before ++ cons_option given []) some

none_there : {X : Type 0} (list : List X) → not (is_there list) ≡ true → list ≡ []
none_there [] none = refl
none_there (one ∷ others) none = absurd (true≢false (sym none ∙ ap not (lt-ltb 0 (length (one ∷ others)) (omega arith))))

module _ (draft : Draft) (before : List Statement) (line : ℕ) (is : IsDraftOf draft before) where
  pub nothing_added : IsDraftOf draft (before ++ (line, Some Nothing) ∷ [])
  nothing_added = record {
    core = is.core ∙ sym (passed _ before (line, Some Nothing) refl);
    tenants = is.tenants ∙ sym (passed _ before (line, Some Nothing) refl);
    items = is.items ∙ sym (passed _ before (line, Some Nothing) refl);
  }

  pub core_added : (workers places : ℕ) → is_in_place before (Some (Core workers places)) ≡ true
      → IsDraftOf (record draft { core = Some (workers, places) }) (before ++ (line, Some (Core workers places)) ∷ [])
  core_added workers places fits =
      let one : Statement = (line, Some (Core workers places)) in
      record {
        core = sym (joined _ before one (workers, places) refl ∙ ap (λ list. list ++ (workers, places) ∷ []) (none_there (cores before) fits));
        tenants = is.tenants ∙ sym (passed _ before one refl);
        items = is.items ∙ sym (passed _ before one refl);
      }

  pub tenant_added : (limits : Limits) (after : Draft) → after.core ≡ draft.core → after.tenants.items ≡ draft.tenants.items ++ limits ∷ []
      → after.items.items ≡ draft.items.items → IsDraftOf after (before ++ (line, Some (Tenant limits)) ∷ [])
  tenant_added limits after core_stays more items_stay =
      let one : Statement = (line, Some (Tenant limits)) in
      record {
        core = ap option_list core_stays ∙ (is.core ∙ sym (passed _ before one refl));
        tenants = more ∙ (ap (λ list. list ++ limits ∷ []) is.tenants ∙ sym (joined _ before one limits refl));
        items = items_stay ∙ (is.items ∙ sym (passed _ before one refl));
      }

  pub item_added : (action : Action) (after : Draft) → after.core ≡ draft.core → after.tenants.items ≡ draft.tenants.items
      → after.items.items ≡ draft.items.items ++ (record { line = line; action = action }) ∷ [] → IsDraftOf after (before ++ (line, Some (ToDo action)) ∷ [])
  item_added action after core_stays tenants_stay more =
      let one : Statement = (line, Some (ToDo action)) in
      let item : Item = record { line = line; action = action } in
      record {
        core = ap option_list core_stays ∙ (is.core ∙ sym (passed _ before one refl));
        tenants = tenants_stay ∙ (is.tenants ∙ sym (passed _ before one refl));
        items = more ∙ (ap (λ list. list ++ item ∷ []) is.items ∙ sym (joined _ before one item refl));
      }
