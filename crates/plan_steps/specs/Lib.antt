pub mod PlanStep
