mod Rows
mod StepObjects
mod OneJson
mod JsonRows
